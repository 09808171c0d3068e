use Rattle.std.proofs.Common.{◌≡◌, ◌+◌, ◌≤◌, length}
use Rattle.store_tests.proofs.unique_tables.fill.Given as goal

abbrev pub invariant-loop-i : goal.invariant-loop-i
invariant-loop-i g l = record {
  room : l.count ≤ l.table.spare + l.i;
  few : length l.table.entries ≡ l.i;
}
