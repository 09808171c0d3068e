use Rattle.std.proofs.Common.{◌+◌, ◌-◌, length}
use Rattle.dead_sweep.specs.Frees.{Freed}
use Rattle.dead_sweep.proofs.frees.free_leaves.Given as goal

abbrev pub invariant-leaves : goal.invariant-leaves
invariant-leaves g l = Freed g.W.Whole.others g.start (g.W.Whole.view l.w) (length g.start.orders.variables + length g.start.orders.elements) l.from

abbrev pub decreases-leaves : goal.decreases-leaves
decreases-leaves g l = g.start.limit - l.from

abbrev pub ghost-free_slot : goal.ghost-free_slot
ghost-free_slot g a = g.start
