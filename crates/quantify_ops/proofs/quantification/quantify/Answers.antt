use Rattle.std.proofs.lemmas.Result.{IfOk-weaker}
use Rattle.node_store.proofs.Running.{runs, same_scratch}
use Rattle.quantify_ops.proofs.OperationLaws.{quantified_back, root_answer, root_due, root_quantified}
use Rattle.quantify_ops.proofs.quantification.quantify.Goals as goal

pub evaluate-requires-clause-due : goal.evaluate-requires-clause-due
evaluate-requires-clause-due g c = root_due _ c.args.f c.args.g c.args.cube c.requires.cube.0 c.requires.permanent c.requires.operands c.requires.cube.1

pub returns-clause-runs : goal.returns-clause-runs
returns-clause-runs g c = λ vars d.
    let r = c.evaluate.ensures in let m = r.moved.moves.grown in
    runs r.moved.moves (root_quantified _ c.args.f c.args.g c.args.cube vars c.requires.operands d) (λ F is. quantified_back _ _ c.args.f c.args.g c.args.cube vars m c.requires.operands d F is)
    (IfOk-weaker c.evaluate.result _ _ (λ e a. root_answer _ _ c.args.f c.args.g c.args.cube vars e m c.requires.operands d a) r.answer) r.overflow r.memory r.full r.due

pub returns-clause-stack : goal.returns-clause-stack
returns-clause-stack g c = let r = c.evaluate.ensures in same_scratch _ _ r.frames r.free r.moved.known r.moved.marks
