use Rattle.edge_bits.specs.declared.edges.Kind.TheVariants.{Bdd}
use Rattle.node_store.specs.ViewLaws.{Is-from, Is-grown}
use Rattle.store_tests.proofs.stores.products.Goals as goal

pub and-requires : goal.and-requires
and-requires c = record { first = c.in_ok-a.ensures.first; second = c.in_ok-a.ensures.second }

pub and-requires-2 : goal.and-requires-2
and-requires-2 c = record { first = Is-grown Bdd c.and.ensures.grown c.in_ok-a.ensures.condition; second = Is-from Bdd c.in-Ok.ensures.answer }
