use Rattle.std.proofs.Common.{◌<◌, sym, ◌∙◌, subst, nat_lt}
use Rattle.node_store.specs.Changes.{put_at}
use Rattle.dead_sweep.proofs.Leaves.{leaf_skipped, leaf_marked}
use Rattle.dead_sweep.proofs.marks.mark_leaf.Goals as goal

pub count_of-count-requires : goal.count_of-count-requires
count_of-count-requires g c = c.requires.sound.within c.args.slot c.requires.used

pub mark-requires : goal.mark-requires
mark-requires g c = subst (λ x. c.args.slot < x) (sym c.count_of-count.ensures.after.limit) (c.requires.sound.within c.args.slot c.requires.used)

pub returns-then-is_live_leaf-clause-step : goal.returns-then-is_live_leaf-clause-step
returns-then-is_live_leaf-clause-step g c start is_root rank value sound word here m = (
  put_at is_root c.args.slot (nat_lt 0 c.count_of-count.result),
  leaf_marked g.W.Whole.others g.met.W.Whole.others_none g.met.W.Whole.others_both g.met.W.Whole.others_zero start (g.W.Whole.view c.args.w.now) is_root rank c.args.slot value word here m
      (g.W.Whole.view c.count_of-count.new.self) c.count_of-count.ensures.after c.count_of-count.result c.count_of-count.ensures.count sound
      (g.W.Whole.view c.mark.new.self) c.mark.ensures (sym c.is_live_leaf.ensures ∙ c.if-is_live_leaf.true),
)

pub returns-else-is_live_leaf-clause-step : goal.returns-else-is_live_leaf-clause-step
returns-else-is_live_leaf-clause-step g c start is_root rank value sound word here m = (
  put_at is_root c.args.slot (nat_lt 0 c.count_of-count.result),
  leaf_skipped g.W.Whole.others g.met.W.Whole.others_none g.met.W.Whole.others_both g.met.W.Whole.others_zero start (g.W.Whole.view c.args.w.now) is_root rank c.args.slot value word here m
      (g.W.Whole.view c.count_of-count.new.self) c.count_of-count.ensures.after c.count_of-count.result c.count_of-count.ensures.count sound (sym c.is_live_leaf.ensures ∙ c.if-is_live_leaf.false),
)
