use Rattle.add_ops.proofs.TruthLaws.{pattern_key}
use Rattle.add_ops.proofs.truths.NonZeroConversion.key.Goals as goal

pub returns : goal.returns
returns c = pattern_key c.args.f c.key_of.result c.key_of.ensures
