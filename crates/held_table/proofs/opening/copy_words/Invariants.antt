use Rattle.std.proofs.Common.{◌≡◌, ℕ, ◌<◌, ◌≤◌, ◌^◌, length}
use Rattle.std.specs.Prelude.{slice_index}
use Rattle.held_table.proofs.opening.copy_words.Given as goal

abbrev pub invariant-loop-slot : goal.invariant-loop-slot
invariant-loop-slot l = record {
  long : length l.copy.items ≡ l.limit;
  words : (s : ℕ) → s < l.slot → slice_index l.copy.items s ≡ slice_index l.words s;
  rest : (s : ℕ) → l.slot ≤ s → slice_index l.copy.items s ≡ 0;
  fits : (s : ℕ) → slice_index l.copy.items s < 2 ^ 64;
}
