use Rattle.std.proofs.Common.{◌≡◌, ℕ, ◌<◌, length, slice_index}
use Rattle.computed_cache.proofs.memo.Memo.clear.Given as goal

abbrev pub invariant-loop-at : goal.invariant-loop-at
invariant-loop-at l =
    (length l.self-inside.words.items ≡ length l.initial.self-inside.words.items) × (l.self-inside.places ≡ l.initial.self-inside.places) × ((i : ℕ) → i < l.at → slice_index l.self-inside.words.items i ≡ 0)
