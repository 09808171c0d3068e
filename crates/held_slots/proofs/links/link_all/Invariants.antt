use Rattle.std.proofs.Common.{◌≡◌, ◌<◌, ◌≤◌, ◌^◌, ℕ, suc, length, slice_index}
use Rattle.std.specs.Prelude.{vec_capacity}
use Rattle.edge_bits.specs.Reading.{slots_of}
use Rattle.held_slots.specs.Notes.{link_in, mark_in, pin_in}
use Rattle.held_slots.specs.Linked.{Leads, chain_of}
use Rattle.held_slots.proofs.links.link_all.Given as goal

abbrev pub invariant-loop-slot : goal.invariant-loop-slot
invariant-loop-slot l = record {
  room : vec_capacity l.notes ≡ vec_capacity l.initial.notes;
  within : l.slot ≤ length l.words;
  long : length l.notes.items ≡ length l.initial.notes.items;
  variables : length l.firsts.items ≡ 2 ^ 15;
  marks : (s : ℕ) → mark_in (slice_index l.notes.items s) ≡ mark_in (slice_index l.initial.notes.items s);
  pins : (s : ℕ) → pin_in (slice_index l.notes.items s) ≡ pin_in (slice_index l.initial.notes.items s);
  first : (v : ℕ) → v < 2 ^ 15 → Leads (slots_of l.words) (chain_of (slots_of l.words)) (length l.words) v l.slot (slice_index l.firsts.items v);
  next : (s : ℕ) → l.slot ≤ s → s < length l.words → chain_of (slots_of l.words) s < 2 ^ 15
      → Leads (slots_of l.words) (chain_of (slots_of l.words)) (length l.words) (chain_of (slots_of l.words) s) (suc s) (link_in (slice_index l.notes.items s));
}

abbrev pub decreases-loop-slot : goal.decreases-loop-slot
decreases-loop-slot l = l.slot
