use Rattle.std.proofs.Common.{rules}
use Rattle.add_ops.proofs.operations.minus.Goals as goal

pub returns : goal.returns
returns g c = search (rules, c.requires)
