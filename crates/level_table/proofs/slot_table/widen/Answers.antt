use Rattle.std.proofs.Common.{arith}
use Rattle.std.proofs.lemmas.Grind.{common_steps}
use Rattle.level_table.proofs.slot_table.widen.Goals as goal

pub link_all-requires-clause-few_buckets : goal.link_all-requires-clause-few_buckets
link_all-requires-clause-few_buckets c = grind (arith, common_steps)

pub returns-then-len-buckets : goal.returns-then-len-buckets
returns-then-len-buckets c = grind (arith, common_steps)
