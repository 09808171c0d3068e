use Rattle.std.proofs.Common.{◌≡◌, ℕ, ◌+◌, ◌<◌, ◌≤◌, length, slice_index}
use Rattle.std.specs.Prelude.{vec_capacity}
use Rattle.hold_store.proofs.word_table.extend.Given as goal

abbrev pub invariant-loop : goal.invariant-loop
invariant-loop l = record {
  count : length l.initial.words.items ≤ l.slot + 1 → length l.words.items ≡ l.counter;
  unchanged : l.slot + 1 < length l.initial.words.items → length l.words.items ≡ length l.initial.words.items;
  same : (s : ℕ) → slice_index l.words.items s ≡ slice_index l.initial.words.items s;
  room : vec_capacity l.words ≡ vec_capacity l.initial.words;
}
