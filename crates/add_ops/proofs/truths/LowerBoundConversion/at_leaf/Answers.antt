use Rattle.std.proofs.Common.{rules, SFits, w64}
use Rattle.add_ops.proofs.TruthLaws.{reaches_bound}
use Rattle.add_ops.proofs.truths.LowerBoundConversion.at_leaf.Goals as goal

pub returns : goal.returns
returns c = λ w p e f leaf.
    let fits : SFits w64 c.args.self.now.bound = search rules in reaches_bound w p e c.new.result f c.args.number c.args.self.now.bound c.ranges.number fits c.new.ensures leaf
