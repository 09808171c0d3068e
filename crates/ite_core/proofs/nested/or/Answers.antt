use Rattle.std.proofs.Common.{Ok, Err}
use Rattle.std.proofs.lemmas.Result.{err_from_is_err_and}
use Rattle.ite_core.proofs.Complements.{AreTwo-flip, Serves-or}
use Rattle.ite_core.proofs.nested.or.Goals as goal

pub and-requires-clause-operands : goal.and-requires-clause-operands
and-requires-clause-operands g c = AreTwo-flip _ c.args.f c.args.g _ _ c.flip_if-not_f.ensures c.flip_if-not_g.ensures c.requires.operands

pub returns-clause-runs : goal.returns-clause-runs
returns-clause-runs g c = rw c.flip_if.ensures
    (Serves-or _ _ c.args.f c.args.g _ _ c.flip_if-not_f.ensures c.flip_if-not_g.ensures c.requires.operands (Ok c.in_ok-both.both) c.in_ok-both.ensures.runs)

pub returns-in_err-both-clause-runs : goal.returns-in_err-both-clause-runs
returns-in_err-both-clause-runs g c = let q = err_from_is_err_and c.from_residual.result c.from_residual.ensures.1 in rw (q.1, q.2)
    (Serves-or _ _ c.args.f c.args.g _ _ c.flip_if-not_f.ensures c.flip_if-not_g.ensures c.requires.operands (Err _) c.in_err-both.ensures.runs)
