use Rattle.std.proofs.Common.{◌≡◌, ℕ, ◌<◌, length}
use Rattle.std.specs.Prelude.{slice_index}
use Rattle.node_slots.specs.Stores.{count_at}
use Rattle.held_table.proofs.opening.copy_counts.Given as goal

abbrev pub invariant-loop-slot : goal.invariant-loop-slot
invariant-loop-slot l = record {
  long : length l.counts.items ≡ l.limit;
  counts : (s : ℕ) → s < l.slot → slice_index l.counts.items s ≡ count_at l.store s;
}
