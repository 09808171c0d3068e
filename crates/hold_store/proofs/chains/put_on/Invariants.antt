use Rattle.std.proofs.Common.{◌≡◌}
use Rattle.std.specs.Prelude.{Option}
use Rattle.step_store.specs.declared.hand.Link.{Link}
use Rattle.hold_store.specs.Held.{handed}
use Rattle.hold_store.proofs.chains.put_on.Given as goal

abbrev pub invariant-loop : goal.invariant-loop
invariant-loop g l = record {
  own : g.S.Holds.holds l.seat;
  table : g.S.Holds.table l.seat ≡ g.S.Holds.table l.initial.seat;
  rest : g.S.Holds.rest l.seat ≡ g.S.Holds.rest l.initial.seat;
  known : (some : Option Link) × (g.S.Holds.known l.seat ≡ handed (g.S.Holds.known l.initial.seat) (record (g.S.Holds.known l.initial.seat).hand { link = some }));
}
