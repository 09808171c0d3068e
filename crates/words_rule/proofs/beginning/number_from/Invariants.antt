use Rattle.std.proofs.Common.{◌≡◌, ◌⊎◌, ℕ, ◌+◌, ◌<◌, ◌≤◌, length}
use Rattle.std.specs.Prelude.{slice_index}
use Rattle.words_rule.proofs.beginning.number_from.Given as goal

abbrev pub invariant-loop-number : goal.invariant-loop-number
invariant-loop-number l = record {
  long : length l.words.items ≡ length l.initial.words.items;
  before : (k : ℕ) → k < l.number → slice_index l.words.items (l.first + k) ≡ k;
  others : (i : ℕ) → (i < l.first) ⊎ (l.first + l.number ≤ i) → slice_index l.words.items i ≡ slice_index l.initial.words.items i;
}
