use Rattle.std.proofs.Common.{take}
use Rattle.blif_formals.specs.Formals.{IsLineOf}
use Rattle.blif_formals.proofs.formals.misjoined_line.Given as goal

abbrev pub invariant-loop-place : goal.invariant-loop-place
invariant-loop-place l = IsLineOf l.callees (take l.place l.calls) (take l.place l.joined) l.first
