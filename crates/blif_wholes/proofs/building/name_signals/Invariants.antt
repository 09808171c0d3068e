use Rattle.std.proofs.Common.{◌≡◌, map, take}
use Rattle.blif_wholes.specs.Placing.{signal_in}
use Rattle.blif_wholes.proofs.building.name_signals.Given as goal

abbrev pub invariant-loop-role : goal.invariant-loop-role
invariant-loop-role l = l.signals.items ≡ map (signal_in l.covers) (take l.role-index l.roles)
