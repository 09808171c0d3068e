use Rattle.std.proofs.Common.{arith}
use Rattle.std.proofs.lemmas.Grind.{common_steps, moves}
use Rattle.hold_store.proofs.node_counts.NodeCounts.add.Goals as goal

pub overflow_add-index_mut : goal.overflow_add-index_mut
overflow_add-index_mut c = grind (arith, moves)

pub returns-clause-each : goal.returns-clause-each
returns-clause-each c = grind (arith, common_steps)
