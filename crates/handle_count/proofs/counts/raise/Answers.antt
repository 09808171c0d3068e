use Rattle.std.proofs.Common.{rules}
use Rattle.handle_count.proofs.counts.raise.Goals as goal

pub returns-clause-generation : goal.returns-clause-generation
returns-clause-generation c = search (rules, c.requires)
