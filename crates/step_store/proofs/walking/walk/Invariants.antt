use Rattle.std.proofs.Common.{◌≡◌, ◌≤◌, ◌+◌}
use Rattle.node_store.specs.Views.{Kept}
use Rattle.step_store.proofs.WalkLemmas.{IsWay}
use Rattle.step_store.proofs.walking.walk.Given as goal

abbrev pub invariant-loop : goal.invariant-loop
invariant-loop g l = record {
  own : g.S.Walks.walks l.seat;
  table : g.S.Walks.table l.seat ≡ g.S.Walks.table l.initial.seat;
  rest : g.S.Walks.rest l.seat ≡ g.S.Walks.rest l.initial.seat;
  kept : Kept (g.S.Walks.sees l.initial.seat) (g.S.Walks.sees l.seat);
  loads : g.S.Walks.loads l.seat ≤ g.S.Walks.loads l.initial.seat + l.counter;
  few : l.taken ≤ l.counter;
  way : IsWay (g.S.Walks.sees l.initial.seat) (g.S.Walks.sees l.seat) l.fn.edge l.bits l.at l.taken l.counter;
}
