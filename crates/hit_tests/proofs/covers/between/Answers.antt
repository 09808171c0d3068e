use Rattle.edge_bits.specs.declared.edges.Kind.TheVariants.{Zdd}
use Rattle.node_store.specs.ViewLaws.{Is-from}
use Rattle.hit_tests.proofs.covers.between.Goals as goal

pub isop-requires-clause-bounds : goal.isop-requires-clause-bounds
isop-requires-clause-bounds g c = record { first = c.in_ok-even.ensures.is; second = c.in_ok-even.ensures.is }

pub cover_of-requires-clause-family : goal.cover_of-requires-clause-family
cover_of-requires-clause-family g c = Is-from Zdd c.in_ok-products.ensures.serves.answer
