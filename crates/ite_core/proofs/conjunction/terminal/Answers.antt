use Rattle.std.proofs.Common.{rules}
use Rattle.ite_core.proofs.conjunction.terminal.Goals as goal

pub returns-then-index : goal.returns-then-index
returns-then-index c = search (rules, c.requires)
