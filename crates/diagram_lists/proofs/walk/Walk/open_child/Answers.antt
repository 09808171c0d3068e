use Rattle.std.proofs.Common.{rules}
use Rattle.diagram_lists.proofs.walk.Walk.open_child.Goals as goal

pub returns-then-number-eq0-clause-some : goal.returns-then-number-eq0-clause-some
returns-then-number-eq0-clause-some c = search (rules, c.requires)
