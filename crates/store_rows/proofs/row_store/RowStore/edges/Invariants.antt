use Rattle.std.proofs.Common.{◌≡◌, map, take}
use Rattle.operator_calls.specs.Taking.{with_given}
use Rattle.store_rows.specs.RowStores.{edge_in}
use Rattle.store_rows.proofs.row_store.RowStore.edges.Given as goal

abbrev pub invariant-loop-pair : goal.invariant-loop-pair
invariant-loop-pair l = l.edges.items ≡ map (with_given (edge_in l.self.rows.live)) (take l.pair-index l.pairs)
