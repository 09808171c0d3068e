use Rattle.std.proofs.Common.{◌++◌, ap, ◌∙◌}
use Rattle.blif_order.specs.Orders.{is_in}
use Rattle.blif_models.specs.ModelFaults.{least}
use Rattle.blif_formals.specs.Clashes.{least_of}
use Rattle.blif_wholes.specs.Uses.{signals_laid, unmarked_lines, uses_laid}
use Rattle.blif_wholes.proofs.LaidSteps.{told_by_marks}
use Rattle.blif_wholes.proofs.uses.undefined_line.Goals as goal

pub returns : goal.returns
returns c =
    let marks = c.in_ok-marks.marks.items in
    let all = c.args.whole.now.laid.items in
    let inputs = c.args.inputs.now in
    let outputs = c.args.outputs.now in
    let same = c.as_slice-laid.ensures.value in
    c.first_of_laid.ensures
    ∙ (λ j. least_of (c.first_of_uses-first.ensures j) (least (unmarked_lines (c.deref-2.ensures.value j) (uses_laid (same j)))))
    ∙ ap (λ m. least_of (least (unmarked_lines m outputs)) (least (unmarked_lines marks (uses_laid all)))) c.deref.ensures.value
    ∙ told_by_marks marks (inputs ++ signals_laid all) (λ n. c.in_ok-marks.ensures.marks n ∙ ap (λ t. is_in (inputs ++ signals_laid t) n) same) outputs (uses_laid all)
