use Rattle.node_store.specs.ViewLaws.{Grown-trans}
use Rattle.hold_tests.proofs.diagrams.function_of_pairs.Goals as goal

pub returns : goal.returns
returns g c = Grown-trans c.both-p.ensures.grown (Grown-trans c.both-q.ensures.grown c.or.ensures.grown)
