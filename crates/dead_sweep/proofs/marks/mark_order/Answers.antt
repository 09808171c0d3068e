use Rattle.std.proofs.Common.{arith, ◌≡◌, ◌<◌, sym, ◌∙◌, subst, ap, length}
use Rattle.function_laws.specs.Sizes.{in_order}
use Rattle.dead_sweep.specs.Marks.{rank_at, Marked}
use Rattle.dead_sweep.proofs.DoneSlots.{same_after}
use Rattle.dead_sweep.proofs.Advancing.{again, after_none, marks_both}
use Rattle.dead_sweep.proofs.Leaves.{rank_next}
use Rattle.dead_sweep.proofs.marks.mark_order.Goals as goal

pub loop-level-init : goal.loop-level-init
loop-level-init g c =
    (after_none g.W.Whole.others g.met.W.Whole.others_none (g.W.Whole.view c.levels_of-levels.new.self) c.levels_of-levels.ensures.after.sound, λ start is_root sound settled m. (is_root, m))

pub mark_level-requires-clause-whole : goal.mark_level-requires-clause-whole
mark_level-requires-clause-whole g c = c.loop-level.invariant.0.half ∙ c.levels_of-levels.ensures.after.half ∙ c.requires.whole

pub mark_level-requires-clause-level : goal.mark_level-requires-clause-level
mark_level-requires-clause-level g c =
    subst (λ o. c.loop-level.level < length (in_order o c.args.order)) (sym c.loop-level.invariant.0.orders)
    (subst (λ n. c.loop-level.level < n) c.levels_of-levels.ensures.levels c.loop-level-test.true)

pub loop-level-preserved : goal.loop-level-preserved
loop-level-preserved g c =
    let o = g.W.Whole.others in
    let both = g.met.W.Whole.others_both in
    let zero = g.met.W.Whole.others_zero in
    let u = g.W.Whole.view c.levels_of-levels.new.self in
    let v = g.W.Whole.view c.loop-level.w in
    let x = g.W.Whole.view c.mark_level.new.w in
    let lt = subst (λ n. c.loop-level.level < n) c.levels_of-levels.ensures.levels c.loop-level-test.true in (
      same_after o both zero u v x c.loop-level.invariant.0 x.marked c.mark_level.ensures.same,
      λ start is_root sound settled m.
          let r = c.loop-level.invariant.1 start is_root sound settled m in
          let within = subst (λ q. c.loop-level.level < length (in_order q c.args.order)) (sym c.loop-level.invariant.0.orders ∙ r.1.same.orders) lt in
          let next = c.mark_level.ensures.step start r.0 sound settled within r.1 in
          (next.0, subst (λ k. Marked o start x next.0 k 0) (rank_next start.orders c.args.order c.loop-level.level) next.1),
    )

pub returns-clause-same : goal.returns-clause-same
returns-clause-same g c =
    let w = g.W.Whole.view c.args.w.now in
    marks_both g.W.Whole.others g.met.W.Whole.others_both w w (g.W.Whole.view c.levels_of-levels.new.self) (g.W.Whole.view c.loop-level.w)
    (after_none g.W.Whole.others g.met.W.Whole.others_none w c.requires.sound) c.levels_of-levels.ensures.after c.loop-level.invariant.0

pub returns-clause-step : goal.returns-clause-step
returns-clause-step g c start is_root sound settled m =
    let o = g.W.Whole.others in
    let w = g.W.Whole.view c.args.w.now in
    let u = g.W.Whole.view c.levels_of-levels.new.self in
    let m1 = again o g.met.W.Whole.others_both g.met.W.Whole.others_zero start w u is_root (rank_at start.orders c.args.order 0) 0 (rank_at start.orders c.args.order 0) 0 c.levels_of-levels.ensures.after m (λ s y h d. d) (λ s y h d. d) in
    let r = c.loop-level.invariant.1 start is_root sound settled m1 in
    let end = c.loop-level.auto.level-end in
    let last : c.loop-level.level ≡ c.levels_of-levels.result = omega (arith, end, c.loop-level-test.false) in
    let long = c.levels_of-levels.ensures.levels ∙ ap (λ q. length (in_order q c.args.order)) (c.levels_of-levels.ensures.after.orders ∙ m.same.orders) in
    (r.0, subst (λ k. Marked o start (g.W.Whole.view c.loop-level.w) r.0 (rank_at start.orders c.args.order k) 0) (last ∙ long) r.1)
