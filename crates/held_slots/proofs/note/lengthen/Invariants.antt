use Rattle.std.proofs.Common.{◌≡◌, ℕ, ◌+◌, ◌<◌, ◌≤◌, length, slice_index}
use Rattle.std.specs.Prelude.{vec_capacity}
use Rattle.held_slots.proofs.note.lengthen.Given as goal

abbrev pub invariant-loop : goal.invariant-loop
invariant-loop l = record {
  count : length l.initial.notes.items ≤ l.slot + 1 → length l.notes.items ≡ l.counter;
  unchanged : l.slot + 1 < length l.initial.notes.items → length l.notes.items ≡ length l.initial.notes.items;
  same : (s : ℕ) → slice_index l.notes.items s ≡ slice_index l.initial.notes.items s;
  room : vec_capacity l.notes ≡ vec_capacity l.initial.notes;
}
