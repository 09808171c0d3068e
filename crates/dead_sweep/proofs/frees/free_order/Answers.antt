use Rattle.std.proofs.Common.{arith, ◌≡◌, ◌<◌, ◌∙◌, subst, ap, length}
use Rattle.function_laws.specs.Sizes.{in_order}
use Rattle.dead_sweep.specs.Marks.{rank_at}
use Rattle.dead_sweep.specs.Frees.{Freed}
use Rattle.dead_sweep.proofs.FreedSlots.{freed_again}
use Rattle.dead_sweep.proofs.Leaves.{rank_next}
use Rattle.dead_sweep.proofs.frees.free_order.Goals as goal

pub loop-level-init : goal.loop-level-init
loop-level-init g c =
    freed_again g.W.Whole.others g.met.W.Whole.others_both g.met.W.Whole.others_zero g.start (g.W.Whole.view c.args.w.now) (g.W.Whole.view c.levels_of-levels.new.self) c.requires.1.0 (rank_at g.start.orders c.args.order 0) 0
    c.levels_of-levels.ensures.after c.requires.1.1 (rank_at g.start.orders c.args.order 0) 0 (λ s w h m d. d) (λ s w h m d. d)

pub free_level-requires : goal.free_level-requires
free_level-requires g c = λ κ sub.
    let lt = subst (λ n. c.loop-level.level < n) c.levels_of-levels.ensures.levels c.loop-level-test.true in
    (sub, (c.requires.1.0, (subst (λ o. c.loop-level.level < length (in_order o c.args.order)) (c.levels_of-levels.ensures.after.orders ∙ c.requires.1.1.orders) lt, c.loop-level.invariant)))

pub loop-level-preserved : goal.loop-level-preserved
loop-level-preserved g c =
    subst (λ k. Freed g.W.Whole.others g.start (g.W.Whole.view c.free_level.new.w) k 0) (rank_next g.start.orders c.args.order c.loop-level.level) c.free_level.ensures

pub returns : goal.returns
returns g c =
    let end = c.loop-level.auto.level-end in
    let last : c.loop-level.level ≡ c.levels_of-levels.result = omega (arith, end, c.loop-level-test.false) in
    let long = c.levels_of-levels.ensures.levels ∙ ap (λ q. length (in_order q c.args.order)) (c.levels_of-levels.ensures.after.orders ∙ c.requires.1.1.orders) in
    subst (λ k. Freed g.W.Whole.others g.start (g.W.Whole.view c.loop-level.w) (rank_at g.start.orders c.args.order k) 0) (last ∙ long) c.loop-level.invariant
