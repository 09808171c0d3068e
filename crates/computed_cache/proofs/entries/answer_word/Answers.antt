use Rattle.std.proofs.Common.{rules}
use Rattle.computed_cache.proofs.entries.answer_word.Goals as goal

pub returns : goal.returns
returns c = search (rules, c.requires)
