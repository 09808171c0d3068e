use Rattle.std.proofs.Common.{◌≡◌}
use Rattle.step_store.specs.Knowing.{Learns}
use Rattle.step_store.proofs.Passing.{IsPassing}
use Rattle.step_store.proofs.finding.search.Given as goal

abbrev pub invariant-loop : goal.invariant-loop
invariant-loop g l = record {
  own : g.S.Steps.shares l.seat;
  table : g.S.Steps.table l.seat ≡ g.S.Steps.table l.initial.seat;
  rest : g.S.Steps.rest l.seat ≡ g.S.Steps.rest l.initial.seat;
  learns : Learns (g.S.Steps.known l.initial.seat) (g.S.Steps.known l.seat);
  hand : (g.S.Steps.known l.seat).hand ≡ (g.S.Steps.known l.initial.seat).hand;
  limit : l.limit ≡ (g.S.Steps.known l.initial.seat).view.slots;
  passing : IsPassing (g.S.Steps.known l.initial.seat) (g.S.Steps.known l.seat) l.bits l.link l.counter;
}
