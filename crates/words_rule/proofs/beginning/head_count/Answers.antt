use Rattle.std.proofs.Common.{◌∙◌, arith}
use Rattle.words_rule.proofs.NewTables.{doubling, first_heads, not_doubling}
use Rattle.words_rule.proofs.beginning.head_count.Goals as goal
use Rattle.words_rule.proofs.beginning.head_count.Goals.{then-count-slots, else-count-slots}

pub loop-round-init : goal.loop-round-init
loop-round-init c = record { is = first_heads c.args.slots; few = omega arith }

pub loop-round-preserved : goal.loop-round-preserved
loop-round-preserved c =
    let l = c.loop-round in elim c.if-count-slots.branch [
      | then-count-slots w ↦ record { is = w.count-is ∙ doubling l._round c.args.slots l.count l.invariant.is w.if-count-slots.true; few = let e = w.count-is in let t = w.if-count-slots.true in let m = c.requires in omega (arith, e, t, m) }
      | else-count-slots w ↦ record { is = w.count-is ∙ not_doubling l._round c.args.slots l.count l.invariant.is w.if-count-slots.false; few = let e = w.count-is in let i = l.invariant.few in omega (arith, e, i) }
    ]
