use Rattle.std.proofs.Common.{◌≡◌, map, take}
use Rattle.blif_models.specs.ModelFaults.{least}
use Rattle.blif_formals.specs.Calls.{unknown_lines}
use Rattle.blif_formals.proofs.calls.all_unknown.Given as goal

abbrev pub invariant-loop-ones : goal.invariant-loop-ones
invariant-loop-ones l = l.lines.items ≡ map (λ ones. least (unknown_lines l.titles ones)) (take l.ones-index l.calls)
