use Rattle.std.proofs.Common.{rules}
use Rattle.handle_count.proofs.counts.next_generation.Goals as goal

pub returns-clause-generation : goal.returns-clause-generation
returns-clause-generation c = search (rules, c.requires)
