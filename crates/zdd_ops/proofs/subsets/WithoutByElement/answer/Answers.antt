use Rattle.zdd_ops.proofs.SubsetLaws.{Without-answer}
use Rattle.zdd_ops.proofs.subsets.WithoutByElement.answer.Goals as goal

pub returns-clause-answer : goal.returns-clause-answer
returns-clause-answer g c = Without-answer _ c.args._var c.args._hi c.args.lo c.requires _ c.tell_permanent.ensures.kept
