use Rattle.std.proofs.Common.{rules}
use Rattle.node_store.proofs.operator.without_overflow.Goals as goal

pub returns-in-Err-Full : goal.returns-in-Err-Full
returns-in-Err-Full c = search (rules, c.requires)
