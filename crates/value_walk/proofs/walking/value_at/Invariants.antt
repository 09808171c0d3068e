use Rattle.std.proofs.Common.{◌≡◌, ◌-◌, ◌+◌}
use Rattle.edge_bits.specs.declared.edges.Kind.{Kind}
use Rattle.function_laws.specs.Values.{assignment_of}
use Rattle.node_store.specs.Views.{Kept, values_at}
use Rattle.value_walk.specs.Walking.{CanWalk}
use Rattle.value_walk.proofs.walking.value_at.Given as goal

abbrev pub invariant-walk : goal.invariant-walk
invariant-walk g l = record {
  edge : (k : Kind) × CanWalk k (g.G.Grow.view l.store) l.at;
  leads : (k : Kind) → CanWalk k (g.G.Grow.view l.initial.store) l.fn.edge → CanWalk k (g.G.Grow.view l.store) l.at
      × (values_at k (g.G.Grow.view l.store) l.at (assignment_of l.bits) ≡ values_at k (g.G.Grow.view l.initial.store) l.fn.edge (assignment_of l.bits));
  kept : Kept (g.G.Grow.view l.initial.store) (g.G.Grow.view l.store);
}

abbrev pub decreases-walk : goal.decreases-walk
decreases-walk g l = (g.G.Grow.view l.store).vars + 1 - (g.G.Grow.view l.store).top l.at.index
