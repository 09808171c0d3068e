use Rattle.std.proofs.Common.{◌≡◌, map, take}
use Rattle.net_builds.proofs.building.fetched.Given as goal

abbrev pub invariant-loop-handover : goal.invariant-loop-handover
invariant-loop-handover l = l.names.items ≡ map (λ h. h.to) (take l.handover-index l.handovers)
