use Rattle.std.proofs.Common.{◌<◌, All, take}
use Rattle.dd_manager.proofs.faults.are_put_below.Given as goal

abbrev pub invariant-loop-pair : goal.invariant-loop-pair
invariant-loop-pair l = All (λ pair. pair.0 < l.most) (take l.pair-index l.pairs)
