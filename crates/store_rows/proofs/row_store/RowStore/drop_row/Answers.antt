use Rattle.std.proofs.Common.{◌≡◌, sym, subst}
use Rattle.store_upkeep.specs.Lasting.{orders_of}
use Rattle.store_rows.specs.RowStores.{IsLive, Loses, RowStoreView}
use Rattle.store_rows.proofs.Changes.{counted-some, lost, rule-removed}
use Rattle.store_rows.proofs.Rows.{live-found}
use Rattle.store_rows.proofs.row_store.RowStore.drop_row.Goals as goal

pub remove-kind-requires : goal.remove-kind-requires
remove-kind-requires c = live-found c.self.inside.rows.live c.args.h (subst (λ (d : RowStoreView). IsLive d.rows.live c.args.h) (sym c.self.view_is) c.requires)

pub lower-requires : goal.lower-requires
lower-requires c = counted-some (record { store = c.self.inside.store; rows = c.self.inside.rows; made = c.self.inside.made }) c.remove-kind.new.self (record { name = c.args.h; kind = c.remove-kind.result.0; edge = c.remove-kind.result.1 }) c.self.invariant c.remove-kind.ensures.removed

pub invariant_of-self : goal.invariant_of-self
invariant_of-self c = rule-removed (record { store = c.self.inside.store; rows = c.self.inside.rows; made = c.self.inside.made }) c.lower.new.store c.remove-kind.new.self (record { name = c.args.h; kind = c.remove-kind.result.0; edge = c.remove-kind.result.1 }) c.self.invariant c.lower.ensures.rest c.lower.ensures.count c.remove-kind.ensures.removed c.remove-kind.ensures.adds

pub returns-clause-lost : goal.returns-clause-lost
returns-clause-lost c = subst (λ (d : RowStoreView). Loses d (record { store = c.lower.new.store; rows = c.remove-kind.new.self; made = c.self.inside.made }) c.args.h) c.self.view_is
    (lost (record { store = c.self.inside.store; rows = c.self.inside.rows; made = c.self.inside.made }) c.lower.new.store c.remove-kind.new.self c.self.inside.made c.args.h c.remove-kind.result.0 c.remove-kind.result.1 c.lower.ensures.rest c.remove-kind.ensures.removed c.remove-kind.ensures.gone)

pub returns-clause-orders : goal.returns-clause-orders
returns-clause-orders c = subst (λ (d : RowStoreView). orders_of c.lower.new.store ≡ orders_of d.store) c.self.view_is c.lower.ensures.rest.orders
