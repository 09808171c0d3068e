use Rattle.std.proofs.Common.{◌≡◌, take}
use Rattle.blif_models.specs.ModelFaults.{least}
use Rattle.blif_formals.specs.Calls.{unknown_lines}
use Rattle.blif_formals.proofs.calls.unknown_line.Given as goal

abbrev pub invariant-loop-call : goal.invariant-loop-call
invariant-loop-call l = l.first ≡ least (unknown_lines l.titles (take l.call-index l.calls))
