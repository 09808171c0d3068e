use Rattle.std.proofs.Common.{◌≡◌, ◌++◌, map, take}
use Rattle.blif_wholes.proofs.drafting.all_inputs.Given as goal

abbrev pub invariant-loop-latch : goal.invariant-loop-latch
invariant-loop-latch l = l.all.items ≡ l.inputs ++ map (λ latch. latch.output) (take l.latch-index l.latches)
