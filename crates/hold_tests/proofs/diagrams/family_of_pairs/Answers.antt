use Rattle.node_store.specs.ViewLaws.{Grown-trans}
use Rattle.hold_tests.proofs.diagrams.family_of_pairs.Goals as goal

pub returns : goal.returns
returns g c = Grown-trans c.all_or_none-p.ensures.grown (Grown-trans c.all_or_none-q.ensures.grown c.product.ensures.calls.grown)
