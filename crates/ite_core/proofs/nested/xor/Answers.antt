use Rattle.ite_core.proofs.ExclusiveLaws.{xor-operands, Serves-xor}
use Rattle.ite_core.proofs.nested.xor.Goals as goal

pub ite-requires-clause-operands : goal.ite-requires-clause-operands
ite-requires-clause-operands g c = xor-operands _ c.args.f c.args.g _ c.flip_if-not_g.ensures c.requires.operands

pub returns-clause-runs : goal.returns-clause-runs
returns-clause-runs g c = Serves-xor _ _ c.args.f c.args.g _ c.flip_if-not_g.ensures c.requires.operands c.ite.ensures.runs
