use Rattle.std.proofs.Common.{◌≡◌, ◌≤◌, ◌<◌, ◌+◌, drop, length, take, true}
use Rattle.blif_text.specs.Text.{joined_from, kept_from, lines_of, onto_next}
use Rattle.blif_text.proofs.text.next_line.Given as goal

abbrev pub invariant-loop-rest : goal.invariant-loop-rest
invariant-loop-rest l = record {
  joined : joined_from l.number (lines_of l.text) ≡ onto_next l.number (take l.long l.kept) (joined_from l.next (lines_of l.rest));
  kept : drop l.long l.kept ≡ kept_from true (lines_of l.rest);
  within : l.long ≤ length l.kept;
  shorter : length l.rest < length l.text;
  later : l.number < l.next;
  numbers : l.next + length l.rest ≤ l.number + length l.text;
}

abbrev pub decreases-loop-rest : goal.decreases-loop-rest
decreases-loop-rest l = length l.rest
