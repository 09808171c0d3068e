use Rattle.std.proofs.Common.{◌≡◌, ℕ, suc, ◌<◌, ◌≤◌, length, slice_index, slice_index_or}
use Rattle.level_table.specs.Chains.{link_to}
use Rattle.level_table.specs.Leaves.{hash_of_value, IsOfValue}
use Rattle.level_table.specs.declared.leaves.LeafEntry.{LeafEntry}
use Rattle.level_table.proofs.leaves.LeafTable.place_of.Given as goal

abbrev pub invariant-loop-candidate : goal.invariant-loop-candidate
invariant-loop-candidate l = record {
  within : link_to l.candidate ≤ length l.self-inside.entries.items;
  here : (k : ℕ) → link_to l.candidate ≡ suc k → slice_index l.self-inside.chains.hashes k ≡ hash_of_value l.value;
  none : (k : ℕ) (d : LeafEntry) → link_to l.candidate ≤ k → k < length l.self-inside.entries.items → IsOfValue l.value (slice_index_or l.self-inside.entries.items k d) → ⊥;
}

abbrev pub decreases-loop-candidate : goal.decreases-loop-candidate
decreases-loop-candidate l = link_to l.candidate
