use Rattle.std.proofs.Common.{◌≡◌, ◌+◌, ◌<◌, length, refl, sym, subst}
use Rattle.function_laws.specs.Sizes.{in_order}
use Rattle.node_slots.specs.Held.{Alone}
use Rattle.node_slots.specs.Wholes.{content_view}
use Rattle.store_upkeep.specs.Lasting.{orders_of}
use Rattle.store_upkeep.specs.Reordering.{Reorders, orders_left}
use Rattle.store_rows.specs.RowStores.{RowStoreView, Same}
use Rattle.store_rows.proofs.Changes.{has-lasting, rule-lasting}
use Rattle.store_rows.proofs.row_store.RowStore.swap.Goals as goal

pub swap_levels-left-requires-clause-rest : goal.swap_levels-left-requires-clause-rest
swap_levels-left-requires-clause-rest c = c.self.invariant.rest

pub swap_levels-left-requires-clause-level : goal.swap_levels-left-requires-clause-level
swap_levels-left-requires-clause-level c = subst (λ (d : RowStoreView). c.args.level + 1 < length (in_order (orders_of d.store) c.args.order)) (sym c.self.view_is) c.requires

pub invariant_of-result : goal.invariant_of-result
invariant_of-result c = rule-lasting (record { store = c.self.inside.store; rows = c.self.inside.rows; made = c.self.inside.made }) c.swap_levels-left.result.0 c.self.invariant c.swap_levels-left.ensures.rest c.swap_levels-left.ensures.lasts

pub returns-clause-same : goal.returns-clause-same
returns-clause-same c = subst (λ (d : RowStoreView). Same d (record { store = c.swap_levels-left.result.0; rows = c.self.inside.rows; made = c.self.inside.made })) c.self.view_is (record { live = refl; has = has-lasting (record { store = c.self.inside.store; rows = c.self.inside.rows; made = c.self.inside.made }) c.swap_levels-left.result.0 c.self.invariant c.swap_levels-left.ensures.lasts })

pub returns-clause-reorders : goal.returns-clause-reorders
returns-clause-reorders c = subst (λ (d : RowStoreView). Reorders Alone c.args.order c.args.level (content_view d.store) (content_view c.swap_levels-left.result.0) c.swap_levels-left.result.1) c.self.view_is c.swap_levels-left.ensures.reorders

pub returns-clause-orders : goal.returns-clause-orders
returns-clause-orders c = subst (λ (d : RowStoreView). orders_of c.swap_levels-left.result.0 ≡ orders_left c.args.order c.args.level (orders_of d.store) c.swap_levels-left.result.1) c.self.view_is c.swap_levels-left.ensures.orders
