use Rattle.std.proofs.Common.{map, take}
use Rattle.blif_formals.specs.Parting.{JoinNumbers}
use Rattle.blif_formals.proofs.parting.formals_in.Given as goal

abbrev pub invariant-loop-word : goal.invariant-loop-word
invariant-loop-word l = JoinNumbers l.names (map (λ word. word.now) (take l.word-index l.words)) l.formals.items
