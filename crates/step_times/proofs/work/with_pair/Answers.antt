use Rattle.edge_bits.specs.declared.edges.Kind.TheVariants.{Bdd}
use Rattle.node_store.specs.ViewLaws.{Grown-trans, Is-grown}
use Rattle.step_times.proofs.work.with_pair.Goals as goal

pub or-requires : goal.or-requires
or-requires g c = record { first = Is-grown Bdd c.in_ok-pair.ensures.grown c.requires.f; second = c.in_ok-pair.ensures.is }

pub returns-clause-grown : goal.returns-clause-grown
returns-clause-grown g c = Grown-trans c.in_ok-pair.ensures.grown c.or.ensures.grown
