use Rattle.std.proofs.Common.{◌≡◌}
use Rattle.hold_store.specs.Held.{down, handed}
use Rattle.hold_store.proofs.turns.claim_turns.Given as goal

abbrev pub invariant-loop-level : goal.invariant-loop-level
invariant-loop-level g l = record {
  own : g.S.Holds.holds l.seat;
  table : g.S.Holds.table l.seat ≡ g.S.Holds.table l.initial.seat;
  rest : g.S.Holds.rest l.seat ≡ g.S.Holds.rest l.initial.seat;
  known : g.S.Holds.known l.seat ≡ handed (g.S.Holds.known l.initial.seat) (record (g.S.Holds.known l.initial.seat).hand { levels = down l.level });
}
