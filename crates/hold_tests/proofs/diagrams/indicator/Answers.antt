use Rattle.node_store.specs.ViewLaws.{Grown-trans}
use Rattle.hold_tests.proofs.diagrams.indicator.Goals as goal

pub returns-clause-grown : goal.returns-clause-grown
returns-clause-grown g c = Grown-trans c.both-pair.ensures.grown c.from_bdd.ensures.grown
