use Rattle.std.proofs.Common.{◌∙◌, ap, arith, List, ℕ, map}
use Rattle.std.specs.Prelude.{slice_index}
use Rattle.std.proofs.lemmas.List.{take_all}
use Rattle.dddmp_text.proofs.ByRank.{variables-by}
use Rattle.dddmp_text.proofs.sorting.variables_of.Goals as goal

pub returns-clause-told : goal.returns-clause-told
returns-clause-told c =
    let places = c.in_ok-places.places.items in
    variables-by c.args.ids.now c.args.permids.now places c.loop-rank.variables.items c.in_ok-places.ensures.ranks
    (c.loop-rank.invariant ∙ ap (λ (xs : List ℕ). map (slice_index c.args.ids.now) xs) (take_all c.loop-rank.rank places (omega (arith, c.loop-rank-test.false, c.len-rank-end.ensures))))
