use Rattle.std.proofs.Common.{rules}
use Rattle.handle_count.proofs.counts.lower.Goals as goal

pub returns-clause-count : goal.returns-clause-count
returns-clause-count c = search (rules, c.requires)

pub returns-clause-generation : goal.returns-clause-generation
returns-clause-generation c = search (rules, c.requires)
