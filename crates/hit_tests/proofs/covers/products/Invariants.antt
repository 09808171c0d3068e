use Rattle.edge_bits.specs.declared.edges.Kind.TheVariants.{Zdd}
use Rattle.node_store.specs.Views.{AreTwo, Grown}
use Rattle.hit_tests.proofs.covers.products.Given as goal

abbrev pub invariant-loop-i : goal.invariant-loop-i
invariant-loop-i g l = record {
  grown : Grown (g.G.Grow.view l.fn.store) (g.G.Grow.view l.store);
  two : AreTwo Zdd (g.G.Grow.view l.store) l.pair.even l.pair.odd;
}
