use Rattle.std.proofs.Common.{arith}
use Rattle.std.proofs.lemmas.Grind.{common_steps, elements}
use Rattle.blif_wholes.proofs.building.name_signals.Goals as goal

pub loop-role-preserved : goal.loop-role-preserved
loop-role-preserved c = grind (arith, common_steps)

pub returns : goal.returns
returns c = grind (arith, common_steps)

pub signal_of-requires : goal.signal_of-requires
signal_of-requires c = grind (arith, elements)
