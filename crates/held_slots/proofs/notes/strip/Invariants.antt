use Rattle.std.proofs.Common.{◌≡◌, ◌<◌, ℕ, length, slice_index}
use Rattle.std.specs.Prelude.{vec_capacity}
use Rattle.held_slots.specs.Notes.{link_in, mark_in, pin_in}
use Rattle.held_slots.proofs.notes.strip.Given as goal

abbrev pub invariant-loop-slot : goal.invariant-loop-slot
invariant-loop-slot l = record {
  long : length l.notes.items ≡ length l.initial.notes.items;
  marks : (s : ℕ) → s < l.slot → mark_in (slice_index l.notes.items s) ≡ 0;
  links : (s : ℕ) → link_in (slice_index l.notes.items s) ≡ link_in (slice_index l.initial.notes.items s);
  pins : (s : ℕ) → pin_in (slice_index l.notes.items s) ≡ pin_in (slice_index l.initial.notes.items s);
  room : vec_capacity l.notes ≡ vec_capacity l.initial.notes;
}
