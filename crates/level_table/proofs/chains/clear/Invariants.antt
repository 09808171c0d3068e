use Rattle.std.proofs.Common.{◌≡◌, ◌≤◌, replicate, vec_capacity}
use Rattle.level_table.proofs.chains.clear.Given as goal

abbrev pub invariant-loop : goal.invariant-loop
invariant-loop l = record {
  items : l.heads.items ≡ replicate l.counter 0;
  room : l.buckets ≤ vec_capacity l.heads;
}
