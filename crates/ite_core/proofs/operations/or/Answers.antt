use Rattle.std.proofs.Common.{Ok, Err}
use Rattle.std.proofs.lemmas.Result.{err_from_is_err_and}
use Rattle.ite_core.proofs.Complements.{AreTwo-flip, Serves-or}
use Rattle.ite_core.proofs.operations.or.Goals as goal

pub and-requires : goal.and-requires
and-requires g c = AreTwo-flip _ c.args.f c.args.g _ _ c.flip_if-not_f.ensures c.flip_if-not_g.ensures c.requires

pub returns : goal.returns
returns g c = rw c.flip_if.ensures
    (Serves-or _ _ c.args.f c.args.g _ _ c.flip_if-not_f.ensures c.flip_if-not_g.ensures c.requires (Ok c.in_ok-both.both) c.in_ok-both.ensures)

pub returns-in_err-both : goal.returns-in_err-both
returns-in_err-both g c = let q = err_from_is_err_and c.from_residual.result c.from_residual.ensures.1 in rw (q.1, q.2)
    (Serves-or _ _ c.args.f c.args.g _ _ c.flip_if-not_f.ensures c.flip_if-not_g.ensures c.requires (Err _) c.in_err-both.ensures)
