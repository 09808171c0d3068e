use Rattle.std.proofs.Common.{Ok, Err}
use Rattle.std.proofs.lemmas.Result.{err_from_is_err_and}
use Rattle.ite_core.proofs.Complements.{Is-flip}
use Rattle.quantify_ops.proofs.OperationLaws.{Serves-forall, not_work}
use Rattle.quantify_ops.proofs.operations.forall.Goals as goal

pub exists-requires-clause-operand : goal.exists-requires-clause-operand
exists-requires-clause-operand g c = Is-flip _ c.args.f _ c.flip_if-not_f.ensures c.requires.operand

pub returns : goal.returns
returns g c =
    let n = c.flip_if-not_f in
    rw c.flip_if.ensures (Serves-forall _ _ c.args.f n.result c.args.vars.now n.ensures c.requires.operand _ _ (not_work _ _ c.args.f n.result c.args.vars.now n.ensures c.requires.operand) (Ok c.in_ok-some.some) c.in_ok-some.ensures)

pub returns-in_err-some : goal.returns-in_err-some
returns-in_err-some g c =
    let n = c.flip_if-not_f in
    let q = err_from_is_err_and c.from_residual.result c.from_residual.ensures.1 in rw (q.1, q.2)
    (Serves-forall _ _ c.args.f n.result c.args.vars.now n.ensures c.requires.operand _ _ (not_work _ _ c.args.f n.result c.args.vars.now n.ensures c.requires.operand) (Err _) c.in_err-some.ensures)
