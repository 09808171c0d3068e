use Rattle.std.proofs.Common.{rules}
use Rattle.node_store.proofs.parts.upper.Goals as goal

pub returns-then-a-b : goal.returns-then-a-b
returns-then-a-b c = search (rules, c.requires)

pub returns-else-a-b : goal.returns-else-a-b
returns-else-a-b c = search (rules, c.requires)
