use Rattle.std.proofs.Common.{◌≡◌}
use Rattle.computed_cache.proofs.TableLemmas.{IsForgotten}
use Rattle.computed_cache.proofs.memo.Memo.forget.Given as goal

abbrev pub invariant-loop-place : goal.invariant-loop-place
invariant-loop-place l =
    (l.self-inside.places ≡ l.initial.self-inside.places) × (l.self-inside.is_empty ≡ l.initial.self-inside.is_empty)
    × IsForgotten l.slot l.initial.self-inside.words.items l.self-inside.words.items l.place
