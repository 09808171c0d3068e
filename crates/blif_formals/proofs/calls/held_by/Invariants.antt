use Rattle.std.proofs.Common.{◌≡◌, take}
use Rattle.blif_formals.specs.Calls.{held_by}
use Rattle.blif_formals.proofs.calls.held_by.Given as goal

abbrev pub invariant-loop-call : goal.invariant-loop-call
invariant-loop-call l = l.held ≡ held_by l.titles (take l.call-index l.calls)
