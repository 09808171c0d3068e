use Rattle.std.proofs.Common.{◌≡◌, ◌∙◌, refl, subst}
use Rattle.node_store.specs.ViewLaws.{levels-grown}
use Rattle.node_store.specs.Views.{levels}
use Rattle.store_upkeep.specs.Lasting.{orders_of}
use Rattle.store_rows.specs.RowStores.{RowStoreView, Same, view_of}
use Rattle.store_rows.proofs.Changes.{rule-grown}
use Rattle.store_rows.proofs.Standing.{orders-grown}
use Rattle.store_rows.proofs.Tries.{same-run}
use Rattle.store_rows.proofs.row_store.RowStore.levels.Goals as goal

pub invariant_of-self : goal.invariant_of-self
invariant_of-self c = rule-grown (record { store = c.self.inside.store; rows = c.self.inside.rows; made = c.self.inside.made }) c.levels-levels.new.self c.self.invariant c.levels-levels.ensures.kept.grown

pub returns-clause-same : goal.returns-clause-same
returns-clause-same c = subst (λ (d : RowStoreView). Same d (record { store = c.levels-levels.new.self; rows = c.self.inside.rows; made = c.self.inside.made })) c.self.view_is (same-run (record { store = c.self.inside.store; rows = c.self.inside.rows; made = c.self.inside.made }) (record { store = c.levels-levels.new.self; rows = c.self.inside.rows; made = c.self.inside.made }) refl c.levels-levels.ensures.kept.grown)

pub returns-clause-levels : goal.returns-clause-levels
returns-clause-levels c = subst (λ (d : RowStoreView). c.levels-levels.result ≡ levels c.args.kind (view_of d)) c.self.view_is (c.levels-levels.ensures.levels ∙ levels-grown c.args.kind c.levels-levels.ensures.kept.grown)

pub returns-clause-orders : goal.returns-clause-orders
returns-clause-orders c = subst (λ (d : RowStoreView). orders_of c.levels-levels.new.self ≡ orders_of d.store) c.self.view_is (orders-grown c.self.inside.store c.levels-levels.new.self c.tell_sound.ensures.store c.tell_sound-2.ensures.store c.levels-levels.ensures.kept.grown)
