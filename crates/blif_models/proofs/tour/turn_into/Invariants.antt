use Rattle.std.proofs.Common.{◌≡◌, ◌++◌, take}
use Rattle.blif_models.specs.Ranks.{into_each}
use Rattle.blif_models.proofs.tour.turn_into.Given as goal

abbrev pub invariant-loop-model : goal.invariant-loop-model
invariant-loop-model l = l.turns.items ≡ l.initial.turns.items ++ into_each (take l.model-index l.models)
