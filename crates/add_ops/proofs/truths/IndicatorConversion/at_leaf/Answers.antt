use Rattle.add_ops.proofs.TruthLaws.{one_from_truth, zero_from_truth}
use Rattle.add_ops.proofs.truths.IndicatorConversion.at_leaf.Goals as goal

pub returns-then-number-eq0 : goal.returns-then-number-eq0
returns-then-number-eq0 c = λ w p e f leaf. zero_from_truth w p e c.number_zero.result f c.args.number c.if-number-eq0.true c.number_zero.ensures leaf

pub returns-else-number-eq0 : goal.returns-else-number-eq0
returns-else-number-eq0 c = λ w p e f leaf. one_from_truth w p e c.number_one.result f c.args.number c.if-number-eq0.false c.number_one.ensures leaf
