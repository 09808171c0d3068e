use Rattle.std.proofs.Common.{◌≡◌, Some}
use Rattle.step_store.specs.Knowing.{handed}
use Rattle.step_store.proofs.placing.push.Given as goal

abbrev pub invariant-loop : goal.invariant-loop
invariant-loop g l = record {
  own : g.S.Steps.shares l.seat;
  table : g.S.Steps.table l.seat ≡ g.S.Steps.table l.initial.seat;
  rest : g.S.Steps.rest l.seat ≡ g.S.Steps.rest l.initial.seat;
  known : g.S.Steps.known l.seat ≡ handed (g.S.Steps.known l.initial.seat) (record (g.S.Steps.known l.initial.seat).hand { link = Some (record { slot = l.slot; next = l.link }) });
}
