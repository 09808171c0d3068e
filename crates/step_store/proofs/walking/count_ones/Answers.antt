use Rattle.std.proofs.Common.{true, false, arith}
use Rattle.step_store.proofs.WalkLemmas.{ones_next}
use Rattle.step_store.proofs.walking.count_ones.Goals as goal
use Rattle.step_store.proofs.walking.count_ones.Goals.{then-bits-i, else-bits-i}

pub loop-i-preserved : goal.loop-i-preserved
loop-i-preserved c =
    let before = c.loop-i.invariant.count in
    let few = c.loop-i.invariant.few in
    elim c.if-bits-i.branch [
      | then-bits-i w ↦ (let n = ones_next c.args.bits.now c.loop-i.i true w.if-bits-i.true in let is = w.count-is in record { count = omega (arith, n, is, before); few = omega (arith, is, few) })
      | else-bits-i w ↦ (let n = ones_next c.args.bits.now c.loop-i.i false w.if-bits-i.false in let is = w.count-is in record { count = omega (arith, n, is, before); few = omega (arith, is, few) })
    ]
