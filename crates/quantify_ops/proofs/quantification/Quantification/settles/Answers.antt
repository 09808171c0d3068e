use Rattle.std.proofs.Common.{not, ap, ◌∙◌, sym}
use Rattle.function_laws.specs.Values.{constant}
use Rattle.ite_core.proofs.Terminals.{truth_at}
use Rattle.quantify_ops.proofs.QuantifiedLaws.{FirstAnswered-grown, settled_value}
use Rattle.quantify_ops.proofs.quantification.Quantification.settles.Goals as goal

pub rest_of-requires-clause-cube : goal.rest_of-requires-clause-cube
rest_of-requires-clause-cube g c = c.requires.1.due.operands.cube

pub rest_of-requires-clause-in_range : goal.rest_of-requires-clause-in_range
rest_of-requires-clause-in_range g c = c.requires.1.splits.two.in_range

pub rest_of-requires-clause-above : goal.rest_of-requires-clause-above
rest_of-requires-clause-above g c = c.requires.1.splits.above

pub returns-in-Some-clause-answer : goal.returns-in-Some-clause-answer
returns-in-Some-clause-answer g c = λ is.
    let o = c.args.self.now in let e = c.in-Some.ensures in
    let p = FirstAnswered-grown o.f o.g o.cube _ _ c.args.task c.args.var c.args.first c.requires.0.0 c.requires.0.1 e.kept.grown c.requires.1 in
    settled_value _ c.args.task c.requires.0.0 c.requires.0.1 c.args.var p.splits c.args.first _ e.rest
    (truth_at _ p.due.permanent c.args.first (sym c.index.ensures ∙ c.if-index-ne-TRUE_SLOT.false) ∙ ap (λ b. constant (not b)) (sym c.complement.ensures ∙ c.if-complement.false)) p.first_is
