use Rattle.edge_bits.specs.declared.edges.Kind.TheVariants.{Bdd}
use Rattle.node_store.specs.ViewLaws.{Grown-trans, Is-from, Is-grown}
use Rattle.hit_tests.proofs.diagrams.truth_operands.Goals as goal

pub returns-clause-three : goal.returns-clause-three
returns-clause-three g c = record {
  condition = Is-grown Bdd (Grown-trans c.parity-2.ensures.grown c.projection-last.ensures.kept.grown) c.in_ok-even.ensures.is;
  first = Is-grown Bdd c.projection-last.ensures.kept.grown c.in_ok-odd.ensures.is;
  second = Is-from Bdd c.projection-last.ensures.projection.denotes;
}
