use Rattle.std.proofs.Common.{◌≡◌, ℕ, suc, ◌≤◌, max, true, false, length}
use Rattle.std.specs.Prelude.{IfSome, slice_index, vec_capacity}
use Rattle.held_slots.specs.Notes.{link_in, mark_in, pin_in}
use Rattle.held_slots.specs.Linked.{led_to}
use Rattle.held_slots.specs.SlotSets.{IsNext, has}
use Rattle.held_slots.proofs.Gathering.{IsPast, left_from}
use Rattle.held_slots.proofs.links.link_members.Given as goal

abbrev pub invariant-loop-at : goal.invariant-loop-at
invariant-loop-at l = record {
  room : vec_capacity l.notes ≡ vec_capacity l.initial.notes;
  within : length l.notes.items ≤ max (length l.initial.notes.items) l.set.limit;
  member : IfSome l.at (λ slot. has l.set slot ≡ true);
  linked : (s : ℕ) → has l.set s ≡ true → IsPast l.at s → IsNext (has l.set) (suc s) (led_to (link_in (slice_index l.notes.items s)));
  others : (s : ℕ) → has l.set s ≡ false → link_in (slice_index l.notes.items s) ≡ link_in (slice_index l.initial.notes.items s);
  marks : (s : ℕ) → mark_in (slice_index l.notes.items s) ≡ mark_in (slice_index l.initial.notes.items s);
  pins : (s : ℕ) → pin_in (slice_index l.notes.items s) ≡ pin_in (slice_index l.initial.notes.items s);
}

abbrev pub decreases-loop-at : goal.decreases-loop-at
decreases-loop-at l = left_from l.set.limit l.at
