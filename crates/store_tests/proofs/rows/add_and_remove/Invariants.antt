use Rattle.std.proofs.Common.{◌≡◌, ◌+◌}
use Rattle.store_tests.proofs.rows.add_and_remove.Given as goal

abbrev pub invariant-loop-i : goal.invariant-loop-i
invariant-loop-i g l = record {
  room : l.rows.spare ≡ 1;
  adds : l.rows.adds ≡ 3 + l.i;
}
