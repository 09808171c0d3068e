use Rattle.cover_isop.proofs.EdgeSteps.{less-runs, less-two}
use Rattle.cover_isop.proofs.calls.without.Goals as goal

pub and-requires-clause-operands : goal.and-requires-clause-operands
and-requires-clause-operands g c = less-two _ c.args.f c.args.g c.flip_if-not_g.result c.flip_if-not_g.ensures c.requires.operands

pub returns-clause-runs : goal.returns-clause-runs
returns-clause-runs g c = less-runs c.args.f c.args.g c.flip_if-not_g.result _ c.flip_if-not_g.ensures c.requires.operands (λ bad. bad) c.and.ensures.runs
