use Rattle.std.proofs.Common.{arith}
use Rattle.std.proofs.lemmas.Grind.{common_steps}
use Rattle.node_slots.proofs.plain_store.PlainStoreGrow.level.Goals as goal

pub returns-clause-level : goal.returns-clause-level
returns-clause-level c = grind (arith, common_steps)
