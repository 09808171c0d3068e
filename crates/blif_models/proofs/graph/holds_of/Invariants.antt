use Rattle.std.proofs.Common.{◌≡◌, map, take}
use Rattle.blif_models.specs.NumberedGraphs.{held_by}
use Rattle.blif_models.proofs.graph.holds_of.Given as goal

abbrev pub invariant-loop-model : goal.invariant-loop-model
invariant-loop-model l = l.holds.items ≡ map (λ model. held_by model.entries) (take l.model-index l.models)
