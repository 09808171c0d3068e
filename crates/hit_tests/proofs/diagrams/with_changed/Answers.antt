use Rattle.edge_bits.specs.declared.edges.Kind.TheVariants.{Zdd}
use Rattle.node_store.specs.ViewLaws.{Grown-trans, Is-from, Is-grown}
use Rattle.hit_tests.proofs.diagrams.with_changed.Goals as goal

pub union-requires : goal.union-requires
union-requires g c = record {
  first = Is-grown Zdd c.change.ensures.grown c.requires.two.first;
  second = Is-from Zdd c.in_ok-changed.ensures.answer;
}

pub returns-clause-grown : goal.returns-clause-grown
returns-clause-grown g c = Grown-trans c.change.ensures.grown c.union.ensures.grown
