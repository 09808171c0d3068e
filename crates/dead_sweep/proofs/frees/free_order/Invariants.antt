use Rattle.dead_sweep.specs.Marks.{rank_at}
use Rattle.dead_sweep.specs.Frees.{Freed}
use Rattle.dead_sweep.proofs.frees.free_order.Given as goal

abbrev pub invariant-loop-level : goal.invariant-loop-level
invariant-loop-level g l = Freed g.W.Whole.others g.start (g.W.Whole.view l.w) (rank_at g.start.orders l.order l.level) 0

abbrev pub ghost-free_level : goal.ghost-free_level
ghost-free_level g a = g.start
