use Rattle.std.proofs.Common.{◌≡◌, ◌≤◌, All, [], map, take}
use Rattle.diagram_lists.specs.Walks.{IsWalk, LeadsAll, index_of, next, number}
use Rattle.diagram_lists.proofs.lister.list.Given as goal

abbrev pub invariant-loop-edge : goal.invariant-loop-edge
invariant-loop-edge l = record {
  walk : IsWalk l.store l.walk;
  stack : l.walk.stack.items ≡ [];
  have : All (λ e. 1 ≤ number l.walk.numbers.items e.index) (take l.edge-index l.edges);
  roots : l.roots ≡ map (index_of l.walk.numbers.items) (take l.edge-index l.edges);
  leads : LeadsAll l.walk.lines 2 l.roots (next l.walk.lines);
}
