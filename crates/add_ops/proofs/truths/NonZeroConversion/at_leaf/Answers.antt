use Rattle.add_ops.proofs.TruthLaws.{non_zero}
use Rattle.add_ops.proofs.truths.NonZeroConversion.at_leaf.Goals as goal

pub returns : goal.returns
returns c = λ w p e f leaf. non_zero w p e c.new.result f c.args.number c.ranges.number c.new.ensures leaf
