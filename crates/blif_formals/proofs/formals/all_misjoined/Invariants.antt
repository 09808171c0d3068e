use Rattle.std.proofs.Common.{take}
use Rattle.blif_formals.specs.Formals.{AreLinesOf}
use Rattle.blif_formals.proofs.formals.all_misjoined.Given as goal

abbrev pub invariant-loop-model : goal.invariant-loop-model
invariant-loop-model l = AreLinesOf l.callees (take l.model l.calls) (take l.model l.joined) l.lines.items
