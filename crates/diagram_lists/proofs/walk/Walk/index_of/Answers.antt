use Rattle.std.proofs.Common.{rules}
use Rattle.diagram_lists.proofs.walk.Walk.index_of.Goals as goal

pub returns-then-complement : goal.returns-then-complement
returns-then-complement c = search (rules, c.requires)
