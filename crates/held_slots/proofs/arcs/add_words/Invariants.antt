use Rattle.std.proofs.Common.{◌≡◌, ◌<◌, ◌≤◌, ℕ, length, slice_index, take}
use Rattle.std.specs.Prelude.{vec_capacity}
use Rattle.std.specs.List.{sum_by}
use Rattle.held_slots.specs.Arcs.{arcs_in}
use Rattle.held_slots.proofs.arcs.add_words.Given as goal

abbrev pub invariant-loop-slot : goal.invariant-loop-slot
invariant-loop-slot l = record {
  counted : (s : ℕ) → s < l.slots → slice_index l.counts.items s ≡ sum_by (arcs_in s) (take l.slot l.words);
  beyond : (s : ℕ) → l.slots ≤ s → slice_index l.counts.items s ≡ 0;
  within : length l.counts.items ≤ l.slots;
  room : vec_capacity l.counts ≡ vec_capacity l.initial.counts;
}
