use Rattle.std.proofs.Common.{◌≡◌, take}
use Rattle.blif_models.specs.ModelFaults.{least}
use Rattle.blif_wholes.specs.Uses.{unmarked_lines}
use Rattle.blif_wholes.proofs.uses.first_of_uses.Given as goal

abbrev pub invariant-loop-one : goal.invariant-loop-one
invariant-loop-one l = l.first ≡ least (unmarked_lines l.marks (take l.one-index l.uses))
