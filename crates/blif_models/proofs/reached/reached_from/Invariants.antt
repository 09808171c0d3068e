use Rattle.std.proofs.Common.{◌+◌, ◌-◌, length}
use Rattle.blif_models.specs.Graphs.{IsSearch, met_count}
use Rattle.blif_models.proofs.reached.reached_from.Given as goal

abbrev pub invariant-loop-model : goal.invariant-loop-model
invariant-loop-model l = IsSearch l.holds l.from l.search.met.items l.search.left.items

abbrev pub decreases-loop-model : goal.decreases-loop-model
decreases-loop-model l = length l.holds - met_count l.search.met.items + length l.search.left.items
