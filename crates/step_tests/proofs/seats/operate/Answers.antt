use Rattle.edge_bits.specs.declared.edges.Kind.TheVariants.{Bdd, Zdd}
use Rattle.node_store.specs.ViewLaws.{Is-from, Is-grown}
use Rattle.step_tests.proofs.seats.operate.Goals as goal

pub and-requires : goal.and-requires
and-requires g c = record {
  first = Is-grown Bdd c.projection-second.ensures.kept.grown (Is-from Bdd c.projection-first.ensures.projection.denotes);
  second = Is-from Bdd c.projection-second.ensures.projection.denotes;
}

pub returns-clause-are : goal.returns-clause-are
returns-clause-are g c = (Is-grown Bdd c.single.ensures.grown (Is-from Bdd c.in_ok-both.ensures.answer), Is-from Zdd c.in_ok-family.ensures.answer)
