use Rattle.std.proofs.Common.{length}
use Rattle.level_table.proofs.Slots.{IsSought}
use Rattle.level_table.proofs.slot_table.seek.Given as goal

abbrev pub invariant-loop-slot : goal.invariant-loop-slot
invariant-loop-slot l = IsSought l.words (length l.heads) l.bits l.link

abbrev pub decreases-loop-slot : goal.decreases-loop-slot
decreases-loop-slot l = l.link
