use Rattle.std.proofs.Common.{◌≡◌, ◌≤◌}
use Rattle.function_laws.specs.Values.{assignment_of}
use Rattle.step_store.specs.Walking.{ones}
use Rattle.step_store.proofs.walking.count_ones.Given as goal

abbrev pub invariant-loop-i : goal.invariant-loop-i
invariant-loop-i l = record {
  count : l.count ≡ ones l.i (assignment_of l.bits);
  few : l.count ≤ l.i;
}
