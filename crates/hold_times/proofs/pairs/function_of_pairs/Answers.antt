use Rattle.node_store.specs.ViewLaws.{Grown-trans}
use Rattle.hold_times.proofs.pairs.function_of_pairs.Goals as goal

pub loop-i-preserved : goal.loop-i-preserved
loop-i-preserved c = record { grown = Grown-trans c.loop-i.invariant.grown c.in_ok-sum-2.ensures.grown; is = c.in_ok-sum-2.ensures.is }
