use Rattle.std.proofs.Common.{arith}
use Rattle.std.proofs.lemmas.Grind.{common_steps, elements}
use Rattle.node_store.proofs.answers.grown.Goals as goal

pub loop-answer-init : goal.loop-answer-init
loop-answer-init c = grind (arith, common_steps)

pub loop-answer-preserved : goal.loop-answer-preserved
loop-answer-preserved c = grind (arith, elements)
