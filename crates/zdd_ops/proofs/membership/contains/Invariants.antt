use Rattle.std.proofs.Common.{◌≡◌, ◌-◌, ◌+◌}
use Rattle.zdd_ops.proofs.Walks.{Walked}
use Rattle.zdd_ops.proofs.membership.contains.Given as goal

abbrev pub invariant-walk : goal.invariant-walk
invariant-walk g l = record {
  walked : Walked (g.G.Grow.view l.initial.store) (g.G.Grow.view l.store) l.fn.p l.at l.bits l.left;
  room : (g.G.Grow.view l.store).room ≡ (g.G.Grow.view l.initial.store).room;
}

abbrev pub decreases-walk : goal.decreases-walk
decreases-walk g l = (g.G.Grow.view l.store).elements + 1 - (g.G.Grow.view l.store).top l.at.index
