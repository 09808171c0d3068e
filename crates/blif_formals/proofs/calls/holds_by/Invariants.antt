use Rattle.std.proofs.Common.{◌≡◌, map, take}
use Rattle.blif_formals.specs.Calls.{held_by}
use Rattle.blif_formals.proofs.calls.holds_by.Given as goal

abbrev pub invariant-loop-ones : goal.invariant-loop-ones
invariant-loop-ones l = l.holds.items ≡ map (held_by l.titles) (take l.ones-index l.calls)
