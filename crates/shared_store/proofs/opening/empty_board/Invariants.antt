use Rattle.std.proofs.Common.{◌≡◌, None, replicate}
use Rattle.shared_store.proofs.opening.empty_board.Given as goal

abbrev pub invariant-loop : goal.invariant-loop
invariant-loop l = l.cells.items ≡ replicate l.counter None
