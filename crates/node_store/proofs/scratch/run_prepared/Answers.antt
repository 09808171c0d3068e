use Rattle.std.proofs.Common.{arith}
use Rattle.std.proofs.lemmas.Grind.{common_steps}
use Rattle.node_store.proofs.scratch.run_prepared.Goals as goal

pub returns-clause-serves : goal.returns-clause-serves
returns-clause-serves g c = grind (arith, common_steps)

pub returns-then-is_err-clause-serves : goal.returns-then-is_err-clause-serves
returns-then-is_err-clause-serves g c = grind (arith, common_steps)
