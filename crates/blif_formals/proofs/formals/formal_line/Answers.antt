use Rattle.std.proofs.Common.{length, ap, sym, ◌∙◌}
use Rattle.blif_models.specs.ModelFaults.{least}
use Rattle.blif_formals.specs.Reached.{lines_met}
use Rattle.blif_formals.proofs.Misjoined.{as_many_lines, formal_told}
use Rattle.blif_formals.proofs.formals.formal_line.Goals as goal

pub first_met-requires : goal.first_met-requires
first_met-requires c =
    ap length c.deref.ensures.value ∙ as_many_lines c.args.callees.now c.args.calls.now c.args.joined.now c.in_ok-lines.lines.items c.in_ok-lines.ensures ∙ sym c.requires.met

pub returns : goal.returns
returns c =
    formal_told c.args.callees.now c.args.calls.now c.args.joined.now c.args.met.now c.in_ok-lines.lines.items c.first_met.result c.in_ok-lines.ensures
    (c.first_met.ensures ∙ ap (λ ls. least (lines_met c.args.met.now ls)) c.deref.ensures.value)
