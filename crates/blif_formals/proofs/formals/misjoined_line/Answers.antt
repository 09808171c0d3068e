use Rattle.std.proofs.Common.{◌≡◌, ◌<◌, ◌≤◌, ◌+◌, ◌++◌, ◌∷◌, [], None, Some, get_or, length, take, ap, refl, subst, sym, ◌∙◌, arith, if◌then◌else◌}
use Rattle.std.proofs.lemmas.List.{take_all, take_more}
use Rattle.blif_models.specs.ModelFaults.{least, lesser}
use Rattle.blif_formals.specs.declared.calls.Call.{Call}
use Rattle.blif_formals.specs.Formals.{AreMisjoined, IsLineOf, IsToldOf}
use Rattle.blif_formals.proofs.Misjoined.{least_more, one_told}
use Rattle.blif_formals.proofs.formals.misjoined_line.Goals as goal
use Rattle.blif_formals.proofs.formals.misjoined_line.Goals.{then-branch, else-branch}

pub loop-place-init : goal.loop-place-init
loop-place-init c = ([], refl, refl)

pub loop-place-preserved : goal.loop-place-preserved
loop-place-preserved c =
    let callees = c.args.callees.now in
    let calls = c.args.calls.now in
    let joined = c.args.joined.now in
    let i = c.loop-place.place in
    let none : Call = record { line = 0; title = None } in
    let call : Call = get_or calls i none in
    let words = c.index-joined-place.result in
    let told = c.in_ok-joins_wrongly.field-0 in
    let low : i < length joined = subst (λ n. i < n) (sym c.requires.joined) c.loop-place-test.true in
    let more_calls : take (i + 1) calls ≡ take i calls ++ call ∷ [] = take_more calls i none c.loop-place-test.true in
    let more_joined : take (i + 1) joined ≡ take i joined ++ words ∷ [] = take_more joined i words low ∙ ap (λ w. take i joined ++ w ∷ []) (sym c.index-joined-place.is) in
    let told_it : IsToldOf callees call.title words told = subst (λ w. IsToldOf callees call.title w told) c.as_slice.ensures c.in_ok-joins_wrongly.ensures in
    let before = c.loop-place.invariant in
    let lines = before.0 in
    let step : AreMisjoined callees (take i calls ++ call ∷ []) (take i joined ++ words ∷ []) (lines ++ (if told then call.line ∷ [] else [])) = one_told callees (take i calls) (take i joined) lines before.1 call words told told_it in
    let first : c.if-branch.first ≡ (if told then Some (lesser call.line (least lines)) else least lines) =
    elim c.if-branch.branch [
      | then-branch w ↦ w.first-is ∙ ap Some (w.lesser.ensures ∙ ap (lesser call.line) before.2) ∙ ap (λ t. if t then Some (lesser call.line (least lines)) else least lines) (sym w.if-branch.true)
      | else-branch w ↦ w.first-is ∙ before.2 ∙ ap (λ t. if t then Some (lesser call.line (least lines)) else least lines) (sym w.if-branch.false)
    ] in (
      lines ++ (if told then call.line ∷ [] else []),
      subst (λ js. AreMisjoined callees (take (i + 1) calls) js (lines ++ (if told then call.line ∷ [] else []))) (sym more_joined)
          (subst (λ cs. AreMisjoined callees cs (take i joined ++ words ∷ []) (lines ++ (if told then call.line ∷ [] else []))) (sym more_calls) step),
      first ∙ sym (least_more lines told call.line),
    )

pub returns : goal.returns
returns c =
    let i = c.loop-place.place in
    let past = c.loop-place-test.false in
    let all_joined : length c.args.joined.now ≤ i = omega (arith, past, c.requires.joined) in
    subst (λ js. IsLineOf c.args.callees.now c.args.calls.now js c.loop-place.first) (take_all i c.args.joined.now all_joined)
    (subst (λ cs. IsLineOf c.args.callees.now cs (take i c.args.joined.now) c.loop-place.first) (take_all i c.args.calls.now past) c.loop-place.invariant)
