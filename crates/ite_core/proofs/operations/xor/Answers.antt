use Rattle.ite_core.proofs.ExclusiveLaws.{xor-operands, Serves-xor}
use Rattle.ite_core.proofs.operations.xor.Goals as goal

pub ite-requires : goal.ite-requires
ite-requires g c = xor-operands _ c.args.f c.args.g _ c.flip_if-not_g.ensures c.requires

pub returns : goal.returns
returns g c = Serves-xor _ _ c.args.f c.args.g _ c.flip_if-not_g.ensures c.requires c.ite.ensures
