use Rattle.std.proofs.Common.{◌≡◌, ◌+◌, None, Some, get_or, flat_map, ap, sym, ◌∙◌, add-one}
use Rattle.blif_models.specs.Graphs.{is_met}
use Rattle.blif_models.specs.Layouts.{up_to}
use Rattle.blif_models.specs.ModelFaults.{least}
use Rattle.blif_formals.specs.Reached.{line_met}
use Rattle.blif_formals.proofs.ReachedLines.{first_more, first_of}
use Rattle.blif_formals.proofs.reached.first_met.Goals as goal
use Rattle.blif_formals.proofs.reached.first_met.Goals.{then-met-model+in-Some, then-met-model+in_default, else-met-model}

pub loop-model-preserved : goal.loop-model-preserved
loop-model-preserved c =
    let m = c.loop-model.model in
    let met = c.args.met.now in
    let lines = c.args.lines.now in
    let more : least (flat_map (line_met met lines) (up_to (m + 1))) ≡ first_of (is_met met m) (get_or lines m None) c.loop-model.first =
    ap (λ k. least (flat_map (line_met met lines) (up_to k))) (add-one m) ∙ first_more met lines m ∙ ap (first_of (is_met met m) (get_or lines m None)) (sym c.loop-model.invariant) in
    let first = c.loop-model.first in
    elim c.if-met-model.branch [
      | then-met-model+in-Some w ↦ w.first-is ∙ ap Some w.lesser.ensures ∙ sym (more ∙ (λ j. first_of (w.if-met-model.true j) (w.in-Some.is j) first))
      | then-met-model+in_default w ↦ w.first-is ∙ sym (more ∙ (λ j. first_of (w.if-met-model.true j) (w.in_default.is j) first))
      | else-met-model w ↦ w.first-is ∙ sym (more ∙ ap (λ t. first_of t (get_or lines m None) first) w.if-met-model.false)
    ]
