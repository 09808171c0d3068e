use Rattle.std.proofs.Common.{rules}
use Rattle.zdd_ops.proofs.sets.RemovingPointwise.arrange.Goals as goal

pub returns-clause-order : goal.returns-clause-order
returns-clause-order g c = search (rules, c.requires)
