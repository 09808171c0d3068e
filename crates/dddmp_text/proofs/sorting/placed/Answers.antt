use Rattle.std.proofs.Common.{◌∙◌, ap, sym, ◌++◌, ◌∷◌, [], List, ℕ, arith}
use Rattle.std.proofs.lemmas.List.FromFn.{map-range_with_len_more}
use Rattle.dddmp_text.specs.Ranks.{placed}
use Rattle.dddmp_text.proofs.sorting.placed.Goals as goal

pub loop-place-preserved : goal.loop-place-preserved
loop-place-preserved c =
    c.in_ok-push.ensures.items
    ∙ ap (λ (pairs : List (ℕ × ℕ)). pairs ++ placed c.args.entries.now c.loop-place.place ∷ []) c.loop-place.invariant
    ∙ sym (map-range_with_len_more (placed c.args.entries.now) 0 c.loop-place.place c.loop-place.place (omega arith))
