use Rattle.std.proofs.Common.{◌≡◌, ◌<◌, ◌≤◌, ℕ, false}
use Rattle.held_slots.specs.SlotSets.{has_some}
use Rattle.held_slots.proofs.layer.next_word.Given as goal

abbrev pub invariant-loop-word : goal.invariant-loop-word
invariant-loop-word l = record {
  none : (w : ℕ) → l.from ≤ w → w < l.word → has_some l.bits w ≡ false;
}
