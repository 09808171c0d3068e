use Rattle.std.proofs.Common.{◌≡◌, map, take, false, ◌==◌}
use Rattle.std.specs.List.{list_any}
use Rattle.dd_manager.proofs.faults.has_variable.Given as goal

abbrev pub invariant-loop-pair : goal.invariant-loop-pair
invariant-loop-pair l = list_any (λ u. u == l.var) (map (λ pair. pair.0) (take l.pair-index l.pairs)) ≡ false
