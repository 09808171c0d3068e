use Rattle.zdd_ops.proofs.SubsetLaws.{With-answer}
use Rattle.zdd_ops.proofs.subsets.WithByElement.answer.Goals as goal

pub returns-clause-answer : goal.returns-clause-answer
returns-clause-answer g c = With-answer _ c.args._var c.args.hi c.args._lo c.requires _ c.tell_permanent.ensures.kept
