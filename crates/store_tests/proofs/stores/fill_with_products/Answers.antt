use Rattle.edge_bits.specs.declared.edges.Kind.TheVariants.{Bdd}
use Rattle.node_store.specs.ViewLaws.{Grown-trans, Is-from, Is-grown}
use Rattle.store_tests.proofs.stores.fill_with_products.Goals as goal

pub and-requires : goal.and-requires
and-requires g c = record { first = c.in-Some.ensures.first; second = c.in-Some.ensures.second }

pub and-requires-2 : goal.and-requires-2
and-requires-2 g c = record { first = Is-grown Bdd c.and.ensures.grown c.in-Some.ensures.condition; second = Is-from Bdd c.in-Ok.ensures.answer }

pub and-requires-3 : goal.and-requires-3
and-requires-3 g c =
    let m = c.and-2.ensures.grown in
    record { first = Is-grown Bdd m (Is-from Bdd c.in-Ok.ensures.answer); second = Is-grown Bdd (Grown-trans c.and.ensures.grown m) c.in-Some.ensures.condition }

pub and-requires-4 : goal.and-requires-4
and-requires-4 g c =
    let m = Grown-trans c.and.ensures.grown (Grown-trans c.and-2.ensures.grown c.and-3.ensures.grown) in
    record { first = Is-grown Bdd m c.in-Some.ensures.condition; second = Is-grown Bdd m c.in-Some.ensures.first }
