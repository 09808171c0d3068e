use Rattle.std.proofs.Common.{rules}
use Rattle.zdd_ops.proofs.constants.empty.Goals as goal

pub returns-clause-ok : goal.returns-clause-ok
returns-clause-ok g c = search (rules, c.requires)

pub returns-clause-empty : goal.returns-clause-empty
returns-clause-empty g c = search (rules, c.requires)
