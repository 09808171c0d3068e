use Rattle.edge_bits.specs.declared.edges.Kind.TheVariants.{Add}
use Rattle.node_store.specs.ViewLaws.{Grown-trans, Is-grown}
use Rattle.hold_tests.proofs.diagrams.numbers_of_pairs.Goals as goal

pub sum-r-requires : goal.sum-r-requires
sum-r-requires g c = record {
  first = Is-grown Add c.indicator-q.ensures.grown c.indicator-p.ensures.is;
  second = c.indicator-q.ensures.is;
}

pub sum-requires : goal.sum-requires
sum-requires g c = record {
  first = Is-grown Add c.sum-r.ensures.grown c.indicator-q.ensures.is;
  second = c.sum-r.ensures.is;
}

pub returns : goal.returns
returns g c = Grown-trans c.indicator-p.ensures.grown (Grown-trans c.indicator-q.ensures.grown (Grown-trans c.sum-r.ensures.grown c.sum.ensures.grown))
