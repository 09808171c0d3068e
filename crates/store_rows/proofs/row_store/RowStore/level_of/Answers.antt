use Rattle.std.proofs.Common.{◌≡◌, ◌∙◌, ◌+◌, ◌<◌, length, refl, ap, sym, subst}
use Rattle.function_laws.specs.Sizes.{in_order}
use Rattle.node_slots.specs.Stores.{level_in}
use Rattle.store_upkeep.specs.Lasting.{orders_of}
use Rattle.store_rows.specs.Levels.{StandsAt}
use Rattle.store_rows.specs.RowStores.{RowStoreView, Same}
use Rattle.store_rows.proofs.Changes.{rule-grown}
use Rattle.store_rows.proofs.Standing.{orders-grown, stands}
use Rattle.store_rows.proofs.Tries.{same-run}
use Rattle.store_rows.proofs.row_store.RowStore.level_of.Goals as goal

pub invariant_of-self : goal.invariant_of-self
invariant_of-self c = rule-grown (record { store = c.self.inside.store; rows = c.self.inside.rows; made = c.self.inside.made }) c.level-level.new.self c.self.invariant c.level-level.ensures.kept.grown

pub returns-clause-same : goal.returns-clause-same
returns-clause-same c = subst (λ (d : RowStoreView). Same d (record { store = c.level-level.new.self; rows = c.self.inside.rows; made = c.self.inside.made })) c.self.view_is (same-run (record { store = c.self.inside.store; rows = c.self.inside.rows; made = c.self.inside.made }) (record { store = c.level-level.new.self; rows = c.self.inside.rows; made = c.self.inside.made }) refl c.level-level.ensures.kept.grown)

pub returns-clause-orders : goal.returns-clause-orders
returns-clause-orders c = subst (λ (d : RowStoreView). orders_of c.level-level.new.self ≡ orders_of d.store) c.self.view_is (orders-grown c.self.inside.store c.level-level.new.self c.tell_sound.ensures.store c.tell_sound-2.ensures.store c.level-level.ensures.kept.grown)

pub returns-clause-level : goal.returns-clause-level
returns-clause-level c = subst (λ (d : RowStoreView). StandsAt (orders_of d.store) c.args.order c.args.number c.level-level.result) c.self.view_is
    (stands c.self.inside.store c.tell_sound.ensures.store c.args.order c.args.number c.level-level.result (subst (λ (d : RowStoreView). c.args.number < length (in_order (orders_of d.store) c.args.order)) (sym c.self.view_is) c.requires)
    (sym (c.level-level.ensures.level ∙ ap (λ n. level_in c.self.inside.store (n + c.args.number)) c.first_of.ensures)))
