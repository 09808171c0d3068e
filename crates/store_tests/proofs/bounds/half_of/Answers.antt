use Rattle.edge_bits.specs.declared.edges.Kind.TheVariants.{Add}
use Rattle.node_store.specs.ViewLaws.{Grown-trans, Is-from, Is-grown}
use Rattle.store_tests.proofs.bounds.half_of.Goals as goal

pub returns-in_err-hi-clause-grown : goal.returns-in_err-hi-clause-grown
returns-in_err-hi-clause-grown c = Grown-trans c.leaf_of.ensures.grown c.leaf_of-2.ensures.grown

pub choice_of-requires-clause-two : goal.choice_of-requires-clause-two
choice_of-requires-clause-two c = record {
  first = Is-from Add c.in_ok-hi.ensures.leaf;
  second = Is-grown Add c.leaf_of-2.ensures.grown (Is-from Add c.in_ok-lo.ensures.leaf);
}

pub returns-clause-grown : goal.returns-clause-grown
returns-clause-grown c = Grown-trans c.leaf_of.ensures.grown (Grown-trans c.leaf_of-2.ensures.grown c.choice_of.ensures.grown)
