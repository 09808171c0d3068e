use Rattle.std.proofs.Common.{arith}
use Rattle.edge_bits.specs.declared.edges.Kind.TheVariants.{Add, Bdd}
use Rattle.node_store.specs.ViewLaws.{Grown-trans, Is-from, Is-grown}
use Rattle.store_tests.proofs.bounds.choice_of.Goals as goal

pub projection-condition-requires : goal.projection-condition-requires
projection-condition-requires c = (omega (arith, c.requires.var), omega (arith, c.requires.vars, c.requires.var))

pub add_ite-requires : goal.add_ite-requires
add_ite-requires c =
    let grown = c.projection-condition.ensures.kept.grown in
    record {
      condition = Is-from Bdd c.projection-condition.ensures.projection.denotes;
      first = Is-grown Add grown c.requires.two.first;
      second = Is-grown Add grown c.requires.two.second;
    }

pub returns-in_err-add_ite-clause-grown : goal.returns-in_err-add_ite-clause-grown
returns-in_err-add_ite-clause-grown c = Grown-trans c.projection-condition.ensures.kept.grown c.add_ite.ensures.grown

pub returns-clause-grown : goal.returns-clause-grown
returns-clause-grown c = Grown-trans c.projection-condition.ensures.kept.grown c.add_ite.ensures.grown

pub returns-clause-is : goal.returns-clause-is
returns-clause-is c = Is-from Add c.in_ok-add_ite.ensures.answer
