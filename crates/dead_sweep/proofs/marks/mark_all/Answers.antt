use Rattle.std.proofs.Common.{◌∙◌, subst}
use Rattle.dead_sweep.specs.Marks.{Marked}
use Rattle.dead_sweep.proofs.DoneSlots.{same_after}
use Rattle.dead_sweep.proofs.Leaves.{rank_first}
use Rattle.dead_sweep.proofs.marks.mark_all.Goals as goal

pub mark_order-requires-2-clause-whole : goal.mark_order-requires-2-clause-whole
mark_order-requires-2-clause-whole g c = c.mark_order.ensures.same.half ∙ c.requires.whole

pub returns-clause-same : goal.returns-clause-same
returns-clause-same g c =
    let o = g.W.Whole.others in
    let both = g.met.W.Whole.others_both in
    let zero = g.met.W.Whole.others_zero in
    let u = g.W.Whole.view c.args.w.now in
    let v = g.W.Whole.view c.mark_order.new.w in
    let x = g.W.Whole.view c.mark_order-2.new.w in
    let y = g.W.Whole.view c.mark_leaves.new.w in
    same_after o both zero u x y (same_after o both zero u v x c.mark_order.ensures.same x.marked c.mark_order-2.ensures.same) y.marked c.mark_leaves.ensures.same

pub returns-clause-step : goal.returns-clause-step
returns-clause-step g c start is_root sound settled m =
    let a = c.mark_order.ensures.step start is_root sound settled m in
    let b = c.mark_order-2.ensures.step start a.0 sound settled (subst (λ k. Marked g.W.Whole.others start (g.W.Whole.view c.mark_order.new.w) a.0 k 0) (rank_first start.orders) a.1) in
    c.mark_leaves.ensures.step start b.0 sound settled b.1
