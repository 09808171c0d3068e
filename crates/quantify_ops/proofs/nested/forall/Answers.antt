use Rattle.std.proofs.Common.{Ok, Err}
use Rattle.std.proofs.lemmas.Result.{err_from_is_err_and}
use Rattle.ite_core.proofs.Complements.{Is-flip}
use Rattle.quantify_ops.proofs.OperationLaws.{Serves-forall, not_due}
use Rattle.quantify_ops.proofs.nested.forall.Goals as goal

pub exists-requires-clause-operand : goal.exists-requires-clause-operand
exists-requires-clause-operand g c = Is-flip _ c.args.f _ c.flip_if-not_f.ensures c.requires.operand

pub returns-clause-runs : goal.returns-clause-runs
returns-clause-runs g c = λ vars d.
    let n = c.flip_if-not_f in
    rw c.flip_if.ensures (Serves-forall _ _ c.args.f n.result vars n.ensures c.requires.operand _ _ (not_due _ _ c.args.f n.result vars n.ensures c.requires.operand) (Ok c.in_ok-some.some) (c.in_ok-some.ensures.runs vars d))

pub returns-in_err-some-clause-runs : goal.returns-in_err-some-clause-runs
returns-in_err-some-clause-runs g c =
    let n = c.flip_if-not_f in
    let q = err_from_is_err_and c.from_residual.result c.from_residual.ensures.1 in rw (q.1, q.2) (λ vars d.
    Serves-forall _ _ c.args.f n.result vars n.ensures c.requires.operand _ _ (not_due _ _ c.args.f n.result vars n.ensures c.requires.operand) (Err _) (c.in_err-some.ensures.runs vars d))
