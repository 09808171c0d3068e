use Rattle.std.proofs.Common.{◌≡◌, ◌-◌, drop}
use Rattle.blif_formals.specs.Joining.{is_rising}
use Rattle.blif_formals.proofs.joining.is_rising.Given as goal

abbrev pub invariant-loop-place : goal.invariant-loop-place
invariant-loop-place l = is_rising l.numbers ≡ is_rising (drop (l.place - 1) l.numbers)
