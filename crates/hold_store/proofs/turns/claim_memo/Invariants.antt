use Rattle.std.proofs.Common.{◌≡◌}
use Rattle.hold_store.proofs.turns.claim_memo.Given as goal

abbrev pub invariant-loop : goal.invariant-loop
invariant-loop g l = record {
  own : g.S.Holds.holds l.seat;
  table : g.S.Holds.table l.seat ≡ g.S.Holds.table l.initial.seat;
  rest : g.S.Holds.rest l.seat ≡ g.S.Holds.rest l.initial.seat;
  known : g.S.Holds.known l.seat ≡ g.S.Holds.known l.initial.seat;
}
