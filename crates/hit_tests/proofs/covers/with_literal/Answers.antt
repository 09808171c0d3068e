use Rattle.edge_bits.specs.declared.edges.Kind.TheVariants.{Zdd}
use Rattle.node_store.specs.ViewLaws.{Grown-trans, Is-from, Is-grown}
use Rattle.hit_tests.proofs.covers.with_literal.Goals as goal

pub union-requires : goal.union-requires
union-requires g c = record {
  first = Is-grown Zdd c.change-2.ensures.grown (Is-from Zdd c.in_ok-first.ensures.answer);
  second = Is-from Zdd c.in_ok-second.ensures.answer;
}

pub change-requires-2-clause-family : goal.change-requires-2-clause-family
change-requires-2-clause-family g c = Is-grown Zdd c.change.ensures.grown c.requires.two.second

pub returns-in_err-second-clause-grown : goal.returns-in_err-second-clause-grown
returns-in_err-second-clause-grown g c = Grown-trans c.change.ensures.grown c.change-2.ensures.grown

pub returns-clause-grown : goal.returns-clause-grown
returns-clause-grown g c = Grown-trans c.change.ensures.grown (Grown-trans c.change-2.ensures.grown c.union.ensures.grown)
