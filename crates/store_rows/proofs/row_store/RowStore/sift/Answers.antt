use Rattle.std.proofs.Common.{◌≡◌, length, refl, sym, subst}
use Rattle.function_laws.specs.SiftedOrders.{with_order}
use Rattle.function_laws.specs.Sizes.{in_order}
use Rattle.group_sift.specs.Sifts.{IsSifted}
use Rattle.group_sift.specs.Turns.{last_end}
use Rattle.node_slots.specs.Held.{Alone}
use Rattle.node_slots.specs.Wholes.{content_view}
use Rattle.store_upkeep.specs.Lasting.{orders_of}
use Rattle.store_upkeep.specs.Sifting.{sifted_of}
use Rattle.store_rows.specs.RowStores.{RowStoreView, Same}
use Rattle.store_rows.proofs.Changes.{has-lasting, rule-lasting}
use Rattle.store_rows.proofs.row_store.RowStore.sift.Goals as goal

pub sift_order-left-requires-clause-rest : goal.sift_order-left-requires-clause-rest
sift_order-left-requires-clause-rest c = c.self.invariant.rest

pub sift_order-left-requires-clause-end : goal.sift_order-left-requires-clause-end
sift_order-left-requires-clause-end c = subst (λ (d : RowStoreView). last_end 0 c.args.blocks.now ≡ length (in_order (orders_of d.store) c.args.order)) (sym c.self.view_is) c.requires

pub invariant_of-result : goal.invariant_of-result
invariant_of-result c = rule-lasting (record { store = c.self.inside.store; rows = c.self.inside.rows; made = c.self.inside.made }) c.sift_order-left.result.0 c.self.invariant c.sift_order-left.ensures.rest c.sift_order-left.ensures.lasts

pub returns-clause-same : goal.returns-clause-same
returns-clause-same c = subst (λ (d : RowStoreView). Same d (record { store = c.sift_order-left.result.0; rows = c.self.inside.rows; made = c.self.inside.made })) c.self.view_is (record { live = refl; has = has-lasting (record { store = c.self.inside.store; rows = c.self.inside.rows; made = c.self.inside.made }) c.sift_order-left.result.0 c.self.invariant c.sift_order-left.ensures.lasts })

pub returns-clause-sifted : goal.returns-clause-sifted
returns-clause-sifted c = subst (λ (d : RowStoreView). IsSifted Alone c.args.order c.args.blocks.now (content_view d.store) (content_view c.sift_order-left.result.0) c.sift_order-left.result.1) c.self.view_is c.sift_order-left.ensures.sifted

pub returns-clause-orders : goal.returns-clause-orders
returns-clause-orders c = subst (λ (d : RowStoreView). orders_of c.sift_order-left.result.0 ≡ with_order (orders_of d.store) c.args.order (sifted_of c.args.order c.args.blocks.now d.store).order) c.self.view_is c.sift_order-left.ensures.orders
