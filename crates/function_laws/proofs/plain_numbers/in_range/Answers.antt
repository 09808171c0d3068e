use Rattle.std.proofs.Common.{◌∙◌, ◌++◌, [], ◌∷◌, ap, pos, get_or, SFits, w64, to_z-of_z, rules}
use Rattle.std.specs.Int.{w128}
use Rattle.function_laws.proofs.NumberLemmas.{exactly-none, exactly-some, values-push}
use Rattle.function_laws.proofs.plain_numbers.in_range.Goals as goal

pub returns-in-None : goal.returns-in-None
returns-in-None c =
    let fit : SFits w128 (get_or c.args.exact.now c.loop-z.z-index (pos 0)) = search rules in
    exactly-none c.args.exact.now c.loop-z.z-index _ c.loop-z-test.true (to_z-of_z fit) c.in-None.ensures

pub loop-z-preserved : goal.loop-z-preserved
loop-z-preserved c =
    let fit : SFits w128 (get_or c.args.exact.now c.loop-z.z-index (pos 0)) = search rules in
    let fit_value : SFits w64 c.in-Some.value = search rules in
    values-push c.args.exact.now c.loop-z.values.items _ c.loop-z.z-index _ _ c.loop-z-test.true (to_z-of_z fit) c.in-Some.ensures
    (c.in_ok-push-in-Some.ensures.items ∙ ap (λ x. c.loop-z.values.items ++ x ∷ []) (to_z-of_z fit_value)) c.loop-z.invariant

pub returns : goal.returns
returns c = exactly-some c.args.exact.now c.loop-z.values.items c.loop-z.z-index c.loop-z-test.false c.loop-z.invariant
