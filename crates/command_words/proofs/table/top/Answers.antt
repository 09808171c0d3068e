use Rattle.std.proofs.Common.{rules}
use Rattle.command_words.proofs.table.top.Goals as goal

pub returns : goal.returns
returns c = search (rules, c.requires)
