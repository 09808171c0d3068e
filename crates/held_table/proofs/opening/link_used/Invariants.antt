use Rattle.std.proofs.Common.{◌≡◌, length}
use Rattle.held_table.specs.Opened.{AreLinked}
use Rattle.held_table.proofs.opening.link_used.Given as goal

abbrev pub invariant-loop-slot : goal.invariant-loop-slot
invariant-loop-slot l = record {
  heads : length l.heads.items ≡ length l.initial.heads.items;
  nexts : length l.nexts.items ≡ length l.initial.nexts.items;
  linked : AreLinked l.heads.items l.nexts.items l.words.items l.slot;
}
