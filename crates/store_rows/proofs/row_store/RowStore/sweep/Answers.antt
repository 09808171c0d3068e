use Rattle.std.proofs.Common.{◌≡◌, refl, subst}
use Rattle.dead_sweep.specs.Swept.{IsSwept}
use Rattle.node_slots.specs.Held.{Alone}
use Rattle.node_slots.specs.Wholes.{content_view}
use Rattle.store_upkeep.specs.Lasting.{orders_of}
use Rattle.store_rows.specs.RowStores.{RowStoreView, Same}
use Rattle.store_rows.proofs.Changes.{has-lasting, rule-lasting}
use Rattle.store_rows.proofs.row_store.RowStore.sweep.Goals as goal

pub sweep_slots-left-requires : goal.sweep_slots-left-requires
sweep_slots-left-requires c = c.self.invariant.rest

pub invariant_of-result : goal.invariant_of-result
invariant_of-result c = rule-lasting (record { store = c.self.inside.store; rows = c.self.inside.rows; made = c.self.inside.made }) c.sweep_slots-left.result.0 c.self.invariant c.sweep_slots-left.ensures.rest c.sweep_slots-left.ensures.lasts

pub returns-clause-same : goal.returns-clause-same
returns-clause-same c = subst (λ (d : RowStoreView). Same d (record { store = c.sweep_slots-left.result.0; rows = c.self.inside.rows; made = c.self.inside.made })) c.self.view_is (record { live = refl; has = has-lasting (record { store = c.self.inside.store; rows = c.self.inside.rows; made = c.self.inside.made }) c.sweep_slots-left.result.0 c.self.invariant c.sweep_slots-left.ensures.lasts })

pub returns-clause-swept : goal.returns-clause-swept
returns-clause-swept c = subst (λ (d : RowStoreView). IsSwept Alone (content_view d.store) (content_view c.sweep_slots-left.result.0) c.sweep_slots-left.result.1) c.self.view_is c.sweep_slots-left.ensures.swept

pub returns-clause-orders : goal.returns-clause-orders
returns-clause-orders c = subst (λ (d : RowStoreView). orders_of c.sweep_slots-left.result.0 ≡ orders_of d.store) c.self.view_is c.sweep_slots-left.ensures.orders
