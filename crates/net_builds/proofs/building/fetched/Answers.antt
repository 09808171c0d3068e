use Rattle.std.proofs.Common.{arith}
use Rattle.std.proofs.lemmas.Grind.{common_steps}
use Rattle.net_builds.proofs.building.fetched.Goals as goal

pub returns : goal.returns
returns c = grind (arith, common_steps)

pub loop-handover-preserved : goal.loop-handover-preserved
loop-handover-preserved c = grind (arith, common_steps)
