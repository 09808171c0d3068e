use Rattle.std.proofs.Common.{◌+◌, length}
use Rattle.blif_models.specs.Ranks.{IsTour, weight_left}
use Rattle.blif_models.proofs.tour.left_in_order.Given as goal

abbrev pub invariant-loop-turn : goal.invariant-loop-turn
invariant-loop-turn l = IsTour l.next l.tour

abbrev pub decreases-loop-turn : goal.decreases-loop-turn
decreases-loop-turn l = weight_left l.next l.tour.met.items + length l.tour.turns.items
