use Rattle.std.proofs.Common.{subst}
use Rattle.dead_sweep.specs.Frees.{Freed}
use Rattle.dead_sweep.proofs.Leaves.{rank_first}
use Rattle.dead_sweep.proofs.frees.free_all.Goals as goal

pub free_order-requires : goal.free_order-requires
free_order-requires g c = λ κ sub. (sub, (c.requires.1.0, c.requires.1.1))

pub free_order-requires-2 : goal.free_order-requires-2
free_order-requires-2 g c = λ κ sub.
    (sub, (c.requires.1.0, subst (λ k. Freed g.W.Whole.others g.start (g.W.Whole.view c.free_order.new.w) k 0) (rank_first g.start.orders) c.free_order.ensures))

pub free_leaves-requires : goal.free_leaves-requires
free_leaves-requires g c = λ κ sub. (sub, (c.requires.1.0, c.free_order-2.ensures))
