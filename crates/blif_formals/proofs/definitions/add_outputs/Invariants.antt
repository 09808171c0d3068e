use Rattle.std.proofs.Common.{◌≡◌, ◌++◌, take}
use Rattle.blif_formals.specs.Definitions.{outputs_joined}
use Rattle.blif_formals.proofs.definitions.add_outputs.Given as goal

abbrev pub invariant-loop-join : goal.invariant-loop-join
invariant-loop-join l = l.found.items ≡ l.initial.found.items ++ outputs_joined l.ports l.line (take l.join-index l.joins)
