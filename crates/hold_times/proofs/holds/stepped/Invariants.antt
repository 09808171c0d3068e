use Rattle.std.proofs.Common.{◌≡◌}
use Rattle.group_sift.specs.Turns.{last_end}
use Rattle.hold_calls.specs.Rests.{IsAtRest}
use Rattle.hold_times.proofs.holds.stepped.Given as goal

abbrev pub invariant-loop : goal.invariant-loop
invariant-loop g l = record {
  own : g.S.Holds.holds l.seat;
  home : (g.S.Holds.table l.seat ≡ g.E.Home.number) × (g.S.Holds.rest l.seat ≡ g.E.Home.rest);
  rest : IsAtRest (g.S.Holds.known l.seat) l.room;
  end : last_end 0 l.blocks ≡ l.end;
}
