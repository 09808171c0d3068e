use Rattle.std.proofs.Common.{rules}
use Rattle.function_laws.proofs.plain_numbers.value_in_range.Goals as goal

pub returns-then-exact-from : goal.returns-then-exact-from
returns-then-exact-from c = search (rules, c.requires)
