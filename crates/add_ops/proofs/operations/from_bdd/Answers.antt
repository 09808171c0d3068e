use Rattle.std.proofs.Common.{rules}
use Rattle.add_ops.proofs.operations.from_bdd.Goals as goal

pub returns : goal.returns
returns g c = search (rules, c.requires)
