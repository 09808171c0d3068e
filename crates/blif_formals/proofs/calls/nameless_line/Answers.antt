use Rattle.std.proofs.Common.{List, ap, map, sym, ◌∙◌}
use Rattle.blif_models.specs.ModelFaults.{least}
use Rattle.blif_formals.specs.declared.calls.Call.{Call}
use Rattle.blif_formals.specs.Calls.{unknown_lines}
use Rattle.blif_formals.specs.Clashes.{least_of}
use Rattle.blif_formals.specs.Reached.{lines_met}
use Rattle.blif_formals.specs.Titles.{mistitled_lines}
use Rattle.blif_formals.proofs.Clashing.{least_both}
use Rattle.blif_formals.proofs.calls.nameless_line.Goals as goal

pub returns : goal.returns
returns c =
    let met = c.args.met.now in
    let lines = λ (ones : List Call). least (unknown_lines c.args.titles.now ones) in
    c.least_of.ensures
    ∙ (λ j. least_of (c.mistitled_line-mistitled.ensures j) ((c.first_met-unknown.ensures ∙ ap (λ xs. least (lines_met met xs)) (c.deref.ensures.value ∙ c.in_ok-all_unknown.ensures)) j))
    ∙ sym (least_both (mistitled_lines c.args.headings.now) (lines_met met (map lines c.args.calls.now)))
