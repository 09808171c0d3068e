use Rattle.std.proofs.Common.{◌-◌}
use Rattle.dead_sweep.specs.Marks.{rank_at}
use Rattle.dead_sweep.specs.Frees.{Freed}
use Rattle.dead_sweep.proofs.frees.free_level.Given as goal

abbrev pub invariant-slots : goal.invariant-slots
invariant-slots g l = Freed g.W.Whole.others g.start (g.W.Whole.view l.w) (rank_at g.start.orders l.order l.level) l.from

abbrev pub decreases-slots : goal.decreases-slots
decreases-slots g l = g.start.limit - l.from

abbrev pub ghost-free_slot : goal.ghost-free_slot
ghost-free_slot g a = g.start
