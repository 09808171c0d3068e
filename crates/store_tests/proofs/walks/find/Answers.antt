use Rattle.std.proofs.Common.{arith}
use Rattle.std.proofs.lemmas.Grind.{common_steps, elements}
use Rattle.store_tests.proofs.walks.find.Goals as goal

pub loop-slot-preserved : goal.loop-slot-preserved
loop-slot-preserved c = grind (arith, elements)

pub returns-clause-absent : goal.returns-clause-absent
returns-clause-absent c = grind (arith, common_steps)
