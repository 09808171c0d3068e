use Rattle.std.proofs.Common.{rules}
use Rattle.zdd_ops.proofs.constants.base.Goals as goal

pub returns-clause-ok : goal.returns-clause-ok
returns-clause-ok g c = search (rules, c.requires)

pub returns-clause-base : goal.returns-clause-base
returns-clause-base g c = search (rules, c.requires)
