use Rattle.std.specs.Prelude.{All}
use Rattle.blif_models.specs.Ranks.{TurnIs}
use Rattle.blif_models.proofs.tour.start.Given as goal

abbrev pub invariant-loop-model : goal.invariant-loop-model
invariant-loop-model l = All (TurnIs l.fn.count) l.turns.items
