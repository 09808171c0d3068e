use Rattle.std.proofs.Common.{◌≡◌, ◌<◌, ◌≤◌, ◌+◌, ◌++◌, ◌∷◌, [], List, Option, ℕ, length, take, ap, subst, sym, ◌∙◌, arith}
use Rattle.std.proofs.lemmas.List.{take_all, take_more}
use Rattle.blif_formals.specs.Formals.{AreLinesOf, IsLineOf}
use Rattle.blif_formals.proofs.Misjoined.{as_many_in, as_many_models, one_line}
use Rattle.blif_formals.proofs.formals.all_misjoined.Goals as goal

pub bounds-joined-model : goal.bounds-joined-model
bounds-joined-model c = subst (λ n. c.loop-model.model < n) (sym (as_many_models c.args.joined.now c.args.calls.now c.requires.joined)) c.loop-model-test.true

pub misjoined_line-requires-clause-joined : goal.misjoined_line-requires-clause-joined
misjoined_line-requires-clause-joined c =
    ap length (c.as_slice.ensures ∙ c.index-joined-model.is)
    ∙ as_many_in c.args.joined.now c.args.calls.now c.requires.joined c.loop-model.model c.index-joined-model.result c.index-calls-model.result c.loop-model-test.true ∙ sym (ap length (c.as_slice-ones.ensures ∙ c.index-calls-model.is))

pub loop-model-preserved : goal.loop-model-preserved
loop-model-preserved c =
    let callees = c.args.callees.now in
    let calls = c.args.calls.now in
    let joined = c.args.joined.now in
    let m = c.loop-model.model in
    let line = c.in_ok-misjoined_line.field-0 in
    let ones = c.index-calls-model.result in
    let words = c.index-joined-model.result in
    let low : m < length joined = subst (λ n. m < n) (sym (as_many_models joined calls c.requires.joined)) c.loop-model-test.true in
    let more_calls : take (m + 1) calls ≡ take m calls ++ ones ∷ [] = take_more calls m ones c.loop-model-test.true ∙ ap (λ o. take m calls ++ o ∷ []) (sym c.index-calls-model.is) in
    let more_joined : take (m + 1) joined ≡ take m joined ++ words ∷ [] = take_more joined m words low ∙ ap (λ w. take m joined ++ w ∷ []) (sym c.index-joined-model.is) in
    let told : IsLineOf callees ones words line =
    subst (λ w. IsLineOf callees ones w line) c.as_slice.ensures (subst (λ o. IsLineOf callees o c.as_slice.result.now line) c.as_slice-ones.ensures c.in_ok-misjoined_line.ensures) in
    let step = one_line callees (take m calls) (take m joined) c.loop-model.lines.items c.loop-model.invariant ones words line told in
    subst (AreLinesOf callees (take (m + 1) calls) (take (m + 1) joined)) (sym {A = List (Option ℕ)} c.in_ok-push.ensures.items)
    (subst (λ w. AreLinesOf callees (take (m + 1) calls) w (c.loop-model.lines.items ++ line ∷ [])) (sym more_joined)
    (subst (λ o. AreLinesOf callees o (take m joined ++ words ∷ []) (c.loop-model.lines.items ++ line ∷ [])) (sym more_calls) step))

pub returns : goal.returns
returns c =
    let m = c.loop-model.model in
    let calls = c.args.calls.now in
    let joined = c.args.joined.now in
    let past = c.loop-model-test.false in
    let many = as_many_models joined calls c.requires.joined in
    let all_joined : length joined ≤ m = omega (arith, past, many) in
    subst (λ w. AreLinesOf c.args.callees.now calls w c.loop-model.lines.items) (take_all m joined all_joined)
    (subst (λ o. AreLinesOf c.args.callees.now o (take m joined) c.loop-model.lines.items) (take_all m calls past) c.loop-model.invariant)
