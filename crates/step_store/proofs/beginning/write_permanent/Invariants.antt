use Rattle.std.proofs.Common.{◌≡◌, ℕ, ◌<◌, ◌≤◌, length, Some}
use Rattle.std.specs.Prelude.{slice_index}
use Rattle.edge_bits.specs.Reading.{slots_of}
use Rattle.node_slots.specs.Stores.{permanent_word}
use Rattle.step_store.proofs.beginning.write_permanent.Given as goal

abbrev pub invariant-loop-slot : goal.invariant-loop-slot
invariant-loop-slot l = record {
  length_is : length l.words.items ≡ length l.initial.words.items;
  permanent : (s : ℕ) → s < l.slot → slots_of l.words.items s ≡ Some (permanent_word s);
  free : (s : ℕ) → l.slot ≤ s → slice_index l.words.items s ≡ 0;
  fits : (s : ℕ) → slice_index l.words.items s < 18446744073709551616;
}
