use Rattle.std.proofs.Common.{arith}
use Rattle.edge_bits.specs.declared.edges.Kind.TheVariants.{Bdd}
use Rattle.node_store.specs.ViewLaws.{Grown-trans, Is-from, Is-grown}
use Rattle.hit_tests.proofs.diagrams.toggled.Goals as goal

pub projection-variable-requires : goal.projection-variable-requires
projection-variable-requires g c = (omega (arith, c.requires.var), omega (arith, c.requires.vars, c.requires.var))

pub xor-requires : goal.xor-requires
xor-requires g c = record {
  first = Is-grown Bdd c.projection-variable.ensures.kept.grown c.requires.sum;
  second = Is-from Bdd c.projection-variable.ensures.projection.denotes;
}

pub returns-clause-grown : goal.returns-clause-grown
returns-clause-grown g c = Grown-trans c.projection-variable.ensures.kept.grown c.xor.ensures.grown
