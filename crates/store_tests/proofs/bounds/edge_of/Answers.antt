use Rattle.edge_bits.specs.declared.edges.Kind.TheVariants.{Add}
use Rattle.node_store.specs.ViewLaws.{Grown-trans, Is-grown}
use Rattle.store_tests.proofs.bounds.edge_of.Goals as goal

pub returns-in_err-high-clause-grown : goal.returns-in_err-high-clause-grown
returns-in_err-high-clause-grown c = Grown-trans c.half_of.ensures.grown c.half_of-2.ensures.grown

pub choice_of-requires-clause-two : goal.choice_of-requires-clause-two
choice_of-requires-clause-two c = record {
  first = c.in_ok-high.ensures.is;
  second = Is-grown Add c.half_of-2.ensures.grown c.in_ok-low.ensures.is;
}

pub returns-clause-grown : goal.returns-clause-grown
returns-clause-grown c = Grown-trans c.half_of.ensures.grown (Grown-trans c.half_of-2.ensures.grown c.choice_of.ensures.grown)
