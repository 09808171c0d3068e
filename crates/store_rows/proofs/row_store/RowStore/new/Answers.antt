use Rattle.store_rows.proofs.Opening.{opening-rest, opening-uncounted}
use Rattle.store_rows.proofs.Changes.{rule-new}
use Rattle.std.proofs.Common.{sym, subst}
use Rattle.handle_count.specs.RowMaps.{RowMap}
use Rattle.store_rows.specs.RowStores.{IsRowStore}
use Rattle.store_rows.proofs.row_store.RowStore.new.Goals as goal

pub invariant_of-result : goal.invariant_of-result
invariant_of-result c = subst (λ (r : RowMap). IsRowStore (record { store = c.in_ok-store.store; rows = r; made = 0 })) (sym c.new-rows.ensures)
    (rule-new c.args.vars c.args.elements c.args.limit c.in_ok-store.store c.in_ok-store.ensures.opening (opening-uncounted c.args.vars c.args.elements c.args.limit c.in_ok-store.store c.in_ok-store.ensures.opening) (opening-rest c.args.vars c.args.elements c.args.limit c.in_ok-store.store c.in_ok-store.ensures.opening))
