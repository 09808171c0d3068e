use Rattle.std.proofs.Common.{rules}
use Rattle.function_laws.proofs.restricting.passes_each.Goals as goal

pub returns-then-takes_cofactors : goal.returns-then-takes_cofactors
returns-then-takes_cofactors c = search (rules, c.requires)

pub returns-else-takes_cofactors : goal.returns-else-takes_cofactors
returns-else-takes_cofactors c = search (rules, c.requires)
