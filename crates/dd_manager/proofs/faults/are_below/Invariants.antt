use Rattle.std.proofs.Common.{All, ◌<◌, take}
use Rattle.dd_manager.proofs.faults.are_below.Given as goal

abbrev pub invariant-loop-var : goal.invariant-loop-var
invariant-loop-var l = All (λ v. v < l.most) (take l.var-index l.vars)
