use Rattle.std.proofs.Common.{◌≡◌, None, replicate}
use Rattle.table_shelves.proofs.board.Board.new.Given as goal

abbrev pub invariant-loop : goal.invariant-loop
invariant-loop l = l.cells.items ≡ replicate l.counter None
