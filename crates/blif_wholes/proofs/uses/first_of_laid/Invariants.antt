use Rattle.std.proofs.Common.{◌≡◌, take}
use Rattle.blif_models.specs.ModelFaults.{least}
use Rattle.blif_formals.specs.Clashes.{least_of}
use Rattle.blif_wholes.specs.Uses.{unmarked_lines, uses_laid}
use Rattle.blif_wholes.proofs.uses.first_of_laid.Given as goal

abbrev pub invariant-loop-one : goal.invariant-loop-one
invariant-loop-one l = l.first ≡ least_of l.fn.before (least (unmarked_lines l.marks (uses_laid (take l.one-index l.laid))))
