use Rattle.edge_bits.specs.declared.edges.Kind.TheVariants.{Bdd}
use Rattle.node_store.specs.Views.{Grown, Is}
use Rattle.hit_tests.proofs.diagrams.parity.Given as goal

abbrev pub invariant-loop-i : goal.invariant-loop-i
invariant-loop-i g l = record {
  grown : Grown (g.G.Grow.view l.fn.store) (g.G.Grow.view l.store);
  is : Is Bdd (g.G.Grow.view l.store) l.sum;
}
