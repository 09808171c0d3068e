use Rattle.std.proofs.Common.{◌≡◌, ◌≤◌, ◌+◌, ◌-◌, ◌++◌, drop, length}
use Rattle.blif_models.specs.ModelFaults.{by_line}
use Rattle.blif_models.proofs.adding.merged.Given as goal

abbrev pub invariant-loop-taken : goal.invariant-loop-taken
invariant-loop-taken l = record {
  taken : l.taken ≤ length l.ones;
  passed : l.passed ≤ length l.others;
  all : by_line (l.ones ++ l.others) ≡ l.all.items ++ by_line (drop l.taken l.ones ++ drop l.passed l.others);
}

abbrev pub decreases-loop-taken : goal.decreases-loop-taken
decreases-loop-taken l = length l.ones - l.taken + (length l.others - l.passed)
