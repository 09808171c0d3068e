use Rattle.edge_bits.specs.declared.edges.Kind.TheVariants.{Bdd}
use Rattle.node_store.specs.ViewLaws.{Grown-trans, Is-from, Is-grown}
use Rattle.hold_times.proofs.pairs.both.Goals as goal

pub and-requires : goal.and-requires
and-requires c = record {
  first = Is-grown Bdd c.projection-b.ensures.kept.grown (Is-from Bdd c.projection-a.ensures.projection.denotes);
  second = Is-from Bdd c.projection-b.ensures.projection.denotes;
}

pub returns-clause-grown : goal.returns-clause-grown
returns-clause-grown c = Grown-trans c.projection-a.ensures.kept.grown (Grown-trans c.projection-b.ensures.kept.grown c.and.ensures.grown)
