use Rattle.std.proofs.Common.{◌≡◌}
use Rattle.blif_formals.specs.Twice.{clash_firsts}
use Rattle.blif_formals.proofs.twice.all_clashes.Given as goal

abbrev pub invariant-loop-model : goal.invariant-loop-model
invariant-loop-model l = l.lines.items ≡ clash_firsts l.interfaces l.inputs l.models l.model
