use Rattle.edge_bits.specs.declared.edges.Kind.TheVariants.{Add, Bdd}
use Rattle.node_store.specs.ViewLaws.{Grown-trans, Is-from, Is-grown}
use Rattle.hit_tests.proofs.diagrams.number_operands.Goals as goal

pub from_bdd-requires-2 : goal.from_bdd-requires-2
from_bdd-requires-2 g c = Is-grown Bdd c.from_bdd.ensures.grown c.in_ok-truths.ensures.three.first

pub returns-clause-three : goal.returns-clause-three
returns-clause-three g c = record {
  condition = Is-grown Bdd (Grown-trans c.from_bdd.ensures.grown c.from_bdd-2.ensures.grown) c.in_ok-truths.ensures.three.condition;
  first = Is-grown Add c.from_bdd-2.ensures.grown (Is-from Add c.in_ok-even.ensures.answer);
  second = Is-from Add c.in_ok-odd.ensures.answer;
}
