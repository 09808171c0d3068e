use Rattle.std.proofs.Common.{arith}
use Rattle.std.proofs.lemmas.Grind.{common_steps, moves}
use Rattle.node_slots.proofs.node_counts.NodeCounts.add.Goals as goal

pub overflow_add-index_mut : goal.overflow_add-index_mut
overflow_add-index_mut c = grind (arith, moves)

pub returns-in-Inner-clause-each : goal.returns-in-Inner-clause-each
returns-in-Inner-clause-each c = grind (arith, common_steps)
