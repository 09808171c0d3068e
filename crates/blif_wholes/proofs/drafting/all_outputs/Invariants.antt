use Rattle.std.proofs.Common.{◌≡◌, ◌++◌, map, take}
use Rattle.blif_wholes.proofs.drafting.all_outputs.Given as goal

abbrev pub invariant-loop-latch : goal.invariant-loop-latch
invariant-loop-latch l = l.all.items ≡ map (λ one. one.spot) l.outputs ++ map (λ latch. latch.input) (take l.latch-index l.latches)
