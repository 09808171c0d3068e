use Rattle.std.proofs.Common.{rules}
use Rattle.command_words.proofs.values.number_in.Goals as goal

pub returns-then-not-is_number : goal.returns-then-not-is_number
returns-then-not-is_number c = search (rules, c.requires)

pub returns-then-number-most : goal.returns-then-number-most
returns-then-number-most c = search (rules, c.requires)
