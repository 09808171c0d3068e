use Rattle.std.proofs.Common.{◌≡◌}
use Rattle.step_store.proofs.placing.claim.Given as goal

abbrev pub invariant-loop : goal.invariant-loop
invariant-loop g l = record {
  own : g.S.Steps.shares l.seat;
  table : g.S.Steps.table l.seat ≡ g.S.Steps.table l.initial.seat;
  rest : g.S.Steps.rest l.seat ≡ g.S.Steps.rest l.initial.seat;
  known : g.S.Steps.known l.seat ≡ g.S.Steps.known l.initial.seat;
}
