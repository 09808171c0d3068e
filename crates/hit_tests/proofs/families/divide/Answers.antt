use Rattle.edge_bits.specs.declared.edges.Kind.TheVariants.{Zdd}
use Rattle.node_store.specs.ViewLaws.{Is-from, Is-grown}
use Rattle.hit_tests.proofs.families.divide.Goals as goal

pub quotient-requires : goal.quotient-requires
quotient-requires g c = record {
  first = Is-from Zdd c.in_ok-both.ensures.calls.answer;
  second = Is-grown Zdd c.product.ensures.calls.grown c.in_ok-even.ensures.two.second;
}
