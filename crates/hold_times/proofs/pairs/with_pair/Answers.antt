use Rattle.edge_bits.specs.declared.edges.Kind.TheVariants.{Bdd}
use Rattle.node_store.specs.ViewLaws.{Grown-trans, Is-grown}
use Rattle.hold_times.proofs.pairs.with_pair.Goals as goal

pub or-requires : goal.or-requires
or-requires c = record {
  first = Is-grown Bdd c.in_ok-pair.ensures.grown c.requires;
  second = c.in_ok-pair.ensures.is;
}

pub returns-clause-grown : goal.returns-clause-grown
returns-clause-grown c = Grown-trans c.in_ok-pair.ensures.grown c.or.ensures.grown
