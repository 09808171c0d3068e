use Rattle.std.proofs.Common.{◌<◌, sym, ◌∙◌, subst, nat_lt}
use Rattle.node_store.specs.Changes.{put_at}
use Rattle.dead_sweep.proofs.DoneSlots.{three_marks}
use Rattle.dead_sweep.proofs.MarkedNodes.{skipped, marked_more}
use Rattle.dead_sweep.proofs.marks.mark_node.Goals as goal

pub count_of-count-requires : goal.count_of-count-requires
count_of-count-requires g c = c.requires.sound.within c.args.slot c.requires.slot

pub is_marked-marked-requires : goal.is_marked-marked-requires
is_marked-marked-requires g c =
    subst (λ x. c.args.slot < x) (sym c.count_of-count.ensures.after.limit) (c.requires.sound.within c.args.slot c.requires.slot)

pub mark-requires : goal.mark-requires
mark-requires g c =
    subst (λ x. c.args.slot < x) (sym (c.is_marked-marked.ensures.after.limit ∙ c.count_of-count.ensures.after.limit)) (c.requires.sound.within c.args.slot c.requires.slot)

pub mark-requires-then-is_live : goal.mark-requires-then-is_live
mark-requires-then-is_live g c =
    rw c.index.ensures
    (subst (λ x. c.args.hi.index < x) (sym (c.mark.ensures.limit ∙ c.is_marked-marked.ensures.after.limit ∙ c.count_of-count.ensures.after.limit)) (c.requires.sound.within c.args.hi.index c.requires.hi))

pub mark-requires-then-is_live-2 : goal.mark-requires-then-is_live-2
mark-requires-then-is_live-2 g c =
    rw c.index-then-is_live.ensures
    (subst (λ x. c.args.lo.index < x) (sym (c.mark-then-is_live.ensures.limit ∙ c.mark.ensures.limit ∙ c.is_marked-marked.ensures.after.limit ∙ c.count_of-count.ensures.after.limit))
    (c.requires.sound.within c.args.lo.index c.requires.lo))

pub returns-then-is_live-clause-same : goal.returns-then-is_live-clause-same
returns-then-is_live-clause-same g c =
    three_marks g.W.Whole.others g.met.W.Whole.others_both (g.W.Whole.view c.args.w.now) (g.W.Whole.view c.count_of-count.new.self) (g.W.Whole.view c.is_marked-marked.new.self)
    (g.W.Whole.view c.mark.new.self) (g.W.Whole.view c.mark-then-is_live.new.self) (g.W.Whole.view c.mark-then-is_live-2.new.self) c.args.slot c.args.hi.index c.args.lo.index
    c.count_of-count.ensures.after c.is_marked-marked.ensures.after c.mark.ensures (rw c.index.ensures at c.mark-then-is_live.ensures) (rw c.index-then-is_live.ensures at c.mark-then-is_live-2.ensures)

pub returns-then-is_live-clause-step : goal.returns-then-is_live-clause-step
returns-then-is_live-clause-step g c start is_root rank node sound settled word hi_is lo_is here m =
    let v1 = g.W.Whole.view c.count_of-count.new.self in (
      put_at is_root c.args.slot (nat_lt 0 c.count_of-count.result),
      marked_more g.W.Whole.others g.met.W.Whole.others_both g.met.W.Whole.others_zero start (g.W.Whole.view c.args.w.now) is_root rank c.args.slot node word here m v1
          (g.W.Whole.view c.is_marked-marked.new.self) c.count_of-count.ensures.after c.is_marked-marked.ensures.after c.count_of-count.result c.is_marked-marked.result
          c.count_of-count.ensures.count c.is_marked-marked.ensures.marked sound settled c.args.hi c.args.lo hi_is lo_is
          (g.W.Whole.view c.mark.new.self) (g.W.Whole.view c.mark-then-is_live.new.self) (g.W.Whole.view c.mark-then-is_live-2.new.self)
          c.mark.ensures (rw c.index.ensures at c.mark-then-is_live.ensures) (rw c.index-then-is_live.ensures at c.mark-then-is_live-2.ensures) (sym c.is_live.ensures ∙ c.if-is_live.true),
    )

pub returns-else-is_live-clause-step : goal.returns-else-is_live-clause-step
returns-else-is_live-clause-step g c start is_root rank node sound settled word hi_is lo_is here m =
    let v1 = g.W.Whole.view c.count_of-count.new.self in (
      put_at is_root c.args.slot (nat_lt 0 c.count_of-count.result),
      skipped g.W.Whole.others g.met.W.Whole.others_both g.met.W.Whole.others_zero start (g.W.Whole.view c.args.w.now) is_root rank c.args.slot node word here m v1
          (g.W.Whole.view c.is_marked-marked.new.self) c.count_of-count.ensures.after c.is_marked-marked.ensures.after c.count_of-count.result c.is_marked-marked.result
          c.count_of-count.ensures.count c.is_marked-marked.ensures.marked sound settled c.args.hi c.args.lo hi_is lo_is (sym c.is_live.ensures ∙ c.if-is_live.false),
    )
