use Rattle.edge_bits.specs.declared.edges.Kind.TheVariants.{Zdd}
use Rattle.node_store.specs.ViewLaws.{Is-grown}
use Rattle.hit_tests.proofs.covers.cover.Goals as goal

pub cover_of-requires-2-clause-family : goal.cover_of-requires-2-clause-family
cover_of-requires-2-clause-family g c = Is-grown Zdd c.cover_of.ensures.grown c.in_ok-even.ensures.two.first
