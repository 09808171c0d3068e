use Rattle.std.proofs.Common.{◌≡◌, ℕ, ◌<◌, ◌≤◌, length, slice_index, Some}
use Rattle.edge_bits.specs.Reading.{slots_of}
use Rattle.node_slots.specs.Stores.{permanent_word}
use Rattle.node_slots.specs.Taking.{ArePacked, AreCounted}
use Rattle.node_slots.proofs.node_table.append_permanent.Given as goal

abbrev pub invariant-loop-slot : goal.invariant-loop-slot
invariant-loop-slot l = record {
  taken : l.table.taken ≡ l.slot;
  count : length l.table.words ≡ length l.fn.table.words;
  permanent : (s : ℕ) → s < l.slot → slots_of l.table.words s ≡ Some (permanent_word s);
  free : (s : ℕ) → l.slot ≤ s → slice_index l.table.words s ≡ 0;
  packed : ArePacked l.table.words;
  nodes : AreCounted l.table.words l.nodes;
}
