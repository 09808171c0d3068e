use Rattle.std.proofs.Common.{◌≡◌, ◌+◌, Bool, true, false, not, Option, None, Some, ℕ, filter, get_or, map, take, refl, ap, sym, ◌∙◌, if◌then◌else◌}
use Rattle.std.specs.Option.{is_none, is_some}
use Rattle.std.proofs.lemmas.Bool.{false≢true}
use Rattle.std.proofs.lemmas.List.{take_more}
use Rattle.blif_models.specs.ModelFaults.{least, lesser}
use Rattle.blif_formals.specs.declared.calls.Call.{Call}
use Rattle.blif_formals.specs.Calls.{model_by}
use Rattle.blif_formals.proofs.Clashing.{lines_last}
use Rattle.blif_formals.proofs.calls.unknown_line.Goals as goal
use Rattle.blif_formals.proofs.calls.unknown_line.Goals.{then-is_none, else-is_none}

none_test : (o : Option ℕ) (b : Bool) → is_some o ≡ not b → is_none o ≡ b
none_test None true e = refl
none_test None false e = absurd (false≢true e)
none_test (Some n) true e = absurd (false≢true (sym e))
none_test (Some n) false e = refl

pub loop-call-preserved : goal.loop-call-preserved
loop-call-preserved c =
    let calls = c.args.calls.now in
    let i = c.loop-call.call-index in
    let one : Call = get_or calls i (record { line = 0; title = None }) in
    let p = λ (call : Call). is_none (model_by c.args.titles.now call.title) in
    let before = least (map (λ call. call.line) (filter p (take i calls))) in
    let more : least (map (λ call. call.line) (filter p (take (i + 1) calls))) ≡ (if p one then Some (lesser one.line before) else before) =
    ap (λ xs. least (map (λ call. call.line) (filter p xs))) (take_more calls i (record { line = 0; title = None }) c.loop-call-test.true) ∙ lines_last (λ call. call.line) p (take i calls) one in
    let test : p one ≡ c.is_none.result = ap is_none (sym c.model_by.ensures) ∙ none_test c.model_by.result c.is_none.result c.is_none.ensures in
    elim c.if-is_none.branch [
      | then-is_none w ↦
          w.first-is ∙ ap Some (w.lesser.ensures ∙ ap (lesser one.line) c.loop-call.invariant) ∙ sym (more ∙ ap (λ t. if t then Some (lesser one.line before) else before) (test ∙ w.if-is_none.true))
      | else-is_none w ↦
          w.first-is ∙ c.loop-call.invariant ∙ sym (more ∙ ap (λ t. if t then Some (lesser one.line before) else before) (test ∙ w.if-is_none.false))
    ]
