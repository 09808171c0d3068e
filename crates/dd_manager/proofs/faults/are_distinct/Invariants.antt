use Rattle.std.proofs.Common.{◌≡◌, map, length}
use Rattle.function_laws.specs.Makings.{are_distinct}
use Rattle.dd_manager.proofs.faults.are_distinct.Given as goal

abbrev pub invariant-loop-pair : goal.invariant-loop-pair
invariant-loop-pair l = are_distinct (map (λ pair. pair.0) l.pairs) ≡ are_distinct (map (λ pair. pair.0) l.rest)

abbrev pub decreases-loop-pair : goal.decreases-loop-pair
decreases-loop-pair l = length l.rest
