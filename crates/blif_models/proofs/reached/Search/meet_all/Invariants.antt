use Rattle.std.proofs.Common.{take}
use Rattle.blif_models.specs.Graphs.{Meets}
use Rattle.blif_models.proofs.reached.Search.meet_all.Given as goal

abbrev pub invariant-loop-model : goal.invariant-loop-model
invariant-loop-model l = Meets l.initial.self.met.items l.initial.self.left.items (take l.model-index l.held) l.self.met.items l.self.left.items
