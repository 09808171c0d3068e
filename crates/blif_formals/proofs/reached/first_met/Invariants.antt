use Rattle.std.proofs.Common.{◌≡◌}
use Rattle.std.specs.List.{flat_map}
use Rattle.blif_models.specs.Layouts.{up_to}
use Rattle.blif_models.specs.ModelFaults.{least}
use Rattle.blif_formals.specs.Reached.{line_met}
use Rattle.blif_formals.proofs.reached.first_met.Given as goal

abbrev pub invariant-loop-model : goal.invariant-loop-model
invariant-loop-model l = l.first ≡ least (flat_map (line_met l.met l.lines) (up_to l.model))
