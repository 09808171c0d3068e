use Rattle.edge_bits.specs.declared.edges.Kind.TheVariants.{Bdd}
use Rattle.node_store.specs.TwoLaws.{AreTwo-grown}
use Rattle.node_store.specs.ViewLaws.{Grown-trans, Kept-trans}
use Rattle.quantify_ops.specs.QuantifiedLasts.{HasCube-grown, QuantifiedDue-stays}
use Rattle.quantify_ops.proofs.QuantifiedLaws.{halves_later, step_skip, step_split}
use Rattle.quantify_ops.proofs.quantification.Quantification.narrow.Goals as goal

pub left_of-requires-clause-cube : goal.left_of-requires-clause-cube
left_of-requires-clause-cube g c = HasCube-grown c.split-hi.ensures.kept.grown c.requires.due.operands.cube

pub returns-in-Above-clause-kept : goal.returns-in-Above-clause-kept
returns-in-Above-clause-kept g c = Kept-trans c.split-hi.ensures.kept c.left_of.ensures.kept

pub returns-in-Above-clause-step : goal.returns-in-Above-clause-step
returns-in-Above-clause-step g c =
    let o = c.args.self.now in let m = c.split-hi.ensures.kept.grown in let n = c.left_of.ensures.kept.grown in let t = c.args.task in let two = AreTwo-grown Bdd m c.requires.due.operands.two in
    step_skip o.f o.g o.cube _ t c.split-hi.result c.in-Above.rest (QuantifiedDue-stays o.f o.g o.cube _ _ t (Grown-trans m n) c.requires.due) (halves_later _ _ t.f t.g c.split-hi.result n two c.split-hi.ensures.halves) c.in-Above.ensures.left

pub returns-in-Below-clause-kept : goal.returns-in-Below-clause-kept
returns-in-Below-clause-kept g c = Kept-trans c.split-hi.ensures.kept c.left_of.ensures.kept

pub returns-in-Below-clause-step : goal.returns-in-Below-clause-step
returns-in-Below-clause-step g c =
    let o = c.args.self.now in let m = c.split-hi.ensures.kept.grown in let n = c.left_of.ensures.kept.grown in let t = c.args.task in let two = AreTwo-grown Bdd m c.requires.due.operands.two in
    step_split o.f o.g o.cube _ t c.split-hi.result c.in-Below.rest (QuantifiedDue-stays o.f o.g o.cube _ _ t (Grown-trans m n) c.requires.due) (halves_later _ _ t.f t.g c.split-hi.result n two c.split-hi.ensures.halves) c.in-Below.ensures.left
