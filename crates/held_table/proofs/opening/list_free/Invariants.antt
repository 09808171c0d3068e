use Rattle.std.proofs.Common.{◌≡◌}
use Rattle.std.specs.Prelude.{vec_capacity}
use Rattle.held_table.specs.Opened.{AreAllFree}
use Rattle.held_table.proofs.opening.list_free.Given as goal

abbrev pub invariant-loop-slot : goal.invariant-loop-slot
invariant-loop-slot l = record {
  free : AreAllFree l.words.items l.slot l.freed.items;
  room : vec_capacity l.freed ≡ vec_capacity l.initial.freed;
}
