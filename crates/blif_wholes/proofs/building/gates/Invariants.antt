use Rattle.std.proofs.Common.{◌≡◌, get_or, map, take}
use Rattle.blif_wholes.specs.Placing.{gate_of, no_cover}
use Rattle.blif_wholes.proofs.building.gates.Given as goal

abbrev pub invariant-loop-cover : goal.invariant-loop-cover
invariant-loop-cover l = l.gates.items ≡ map (λ c. gate_of l.kept l.signals (get_or l.covers c no_cover)) (take l.cover-index l.order)
