use Rattle.std.proofs.Common.{◌≡◌, ◌-◌, None}
use Rattle.hold_store.specs.Held.{down, handed}
use Rattle.hold_store.proofs.turns.give_down.Given as goal

abbrev pub invariant-loop-given : goal.invariant-loop-given
invariant-loop-given g l = record {
  own : g.S.Holds.holds l.seat;
  table : g.S.Holds.table l.seat ≡ g.S.Holds.table l.fn.seat;
  rest : g.S.Holds.rest l.seat ≡ g.S.Holds.rest l.fn.seat;
  known : g.S.Holds.known l.seat ≡ handed (g.S.Holds.known l.fn.seat) (record (g.S.Holds.known l.fn.seat).hand { levels = down (l.level - l.given); walk = None });
}
