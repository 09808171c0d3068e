use Rattle.std.proofs.Common.{rules}
use Rattle.command_words.proofs.reading.workers_in.Goals as goal

pub returns : goal.returns
returns c = search (rules, c.requires)
