-- Counts that are loaded change what was noted of them, and nothing else.
use Rattle.std.proofs.Common.{◌≡◌, ℕ, List, ◌∷◌, ap, ◌∙◌}
use mathlib.Core.Logic.{dite}
use native.Mathlib.Decide.{ℕ_discrete}
use Rattle.function_laws.specs.declared.history.Function.{Function}
use Rattle.words_rule.specs.declared.view.View.{View}
use Rattle.words_rule.specs.CountLoads.{HasCounted}
use Rattle.words_rule.specs.Tallies.{times}

abbrev pub with_noted : List ℕ → List Function → View → View
with_noted zeros above v = record v { counts = record v.counts { zeros = zeros; above = above } }

abbrev pub HasNoted : View → View → Type 0
HasNoted v u = (zeros : List ℕ) × (above : List Function) × (u ≡ with_noted zeros above v)

pub noted_more : (k n : ℕ) (start v u : View) → HasNoted start v → HasCounted k n v u → HasNoted start u
noted_more k n start v u old c = dite (ℕ_discrete n 0)
    (λ zero_it. (k ∷ old.0, old.1, (c.none zero_it).1 ∙ ap (λ (w : View). record w { counts = record w.counts { zeros = k ∷ w.counts.zeros } }) old.2))
    (λ some_there. dite (ℕ_discrete (times k v.counts.pins) 0)
    (λ unpinned. let a = c.some some_there unpinned in (old.0, a.function ∷ old.1, a.is ∙ ap (λ (w : View). record w { counts = record w.counts { above = a.function ∷ w.counts.above } }) old.2))
    (λ pinned. (old.0, old.1, c.pinned some_there pinned ∙ old.2)))
