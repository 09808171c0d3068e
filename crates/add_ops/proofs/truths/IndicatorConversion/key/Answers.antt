use Rattle.add_ops.proofs.TruthLaws.{from_truth_key}
use Rattle.add_ops.proofs.truths.IndicatorConversion.key.Goals as goal

pub returns : goal.returns
returns c = from_truth_key c.args.f c.key_of.result c.key_of.ensures
