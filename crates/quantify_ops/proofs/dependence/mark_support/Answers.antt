use Rattle.std.proofs.Common.{ap, length, arith, ◌∙◌}
use Rattle.std.proofs.lemmas.List.{length-replicate}
use Rattle.std.proofs.lemmas.Result.{IfOk-weaker}
use Rattle.node_store.specs.States.{state_of}
use Rattle.quantify_ops.specs.Supports.{IsWalk}
use Rattle.quantify_ops.proofs.ProductLaws.{none_marked}
use Rattle.quantify_ops.proofs.SupportLaws.{regular_free, regular_is, walk_begins, walk_ends}
use Rattle.quantify_ops.proofs.dependence.mark_support.Goals as goal
use Rattle.quantify_ops.proofs.dependence.mark_support.Goals.{After-clear_marks}
use Rattle.quantify_ops.proofs.dependence.mark_support.Given as given

begun : (g : given.Over) (c : After-clear_marks g) → IsWalk c.args.f (state_of (g.G.Grow.view c.args.store.now) c.clear_marks.new.self)
begun g c =
    let e = c.clear_marks.ensures in
    walk_begins c.args.f _ c.requires.operand (let room = c.requires.room in let size = ap length e.marks ∙ length-replicate _ _ in omega arith) (rw e.marks (none_marked _)) (rw e.answers c.requires.blank)

pub evaluate-requires-clause-due : goal.evaluate-requires-clause-due
evaluate-requires-clause-due g c = record {
  walk = begun g (goal.at.evaluate-requires-clause-due g c).After-clear_marks;
  edge = rw c.regular_task.ensures (regular_is _ c.args.f c.requires.operand);
  part = rw c.regular_task.ensures (regular_free _ c.args.f c.requires.operand);
}

pub returns-clause-marks : goal.returns-clause-marks
returns-clause-marks g c =
    let r = c.evaluate.ensures in let i = r.moved.walk (begun g (goal.at.returns-clause-marks g c).After-clear_marks) in IfOk-weaker c.evaluate.result _ _ (λ e a. i.marks) r.answer

pub returns-clause-support : goal.returns-clause-support
returns-clause-support g c =
    let r = c.evaluate.ensures in let i = r.moved.walk (begun g (goal.at.returns-clause-support g c).After-clear_marks) in
    IfOk-weaker c.evaluate.result _ _ (λ e a. walk_ends _ c.args.f _ c.regular_task.result.f r.moved.kept.grown c.requires.operand i c.regular_task.ensures a) r.answer
