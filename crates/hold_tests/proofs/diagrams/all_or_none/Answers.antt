use Rattle.edge_bits.specs.declared.edges.Kind.TheVariants.{Zdd}
use Rattle.node_store.specs.ViewLaws.{Grown-trans, Is-from, Is-grown}
use Rattle.hold_tests.proofs.diagrams.all_or_none.Goals as goal

pub union-requires : goal.union-requires
union-requires g c = record {
  first = Is-grown Zdd (Grown-trans c.change.ensures.grown c.change-2.ensures.grown) (Is-from Zdd c.in-Ok.ensures.base);
  second = Is-from Zdd c.in-Ok-change-2.ensures.answer;
}

pub returns-clause-grown : goal.returns-clause-grown
returns-clause-grown g c = Grown-trans c.base.ensures.kept.grown (Grown-trans c.change.ensures.grown (Grown-trans c.change-2.ensures.grown c.union.ensures.grown))
