use Rattle.std.proofs.Common.{rules}
use Rattle.edge_bits.proofs.lists.List.push.Goals as goal

pub returns-clause-ok : goal.returns-clause-ok
returns-clause-ok g c = search (rules, c.requires)
