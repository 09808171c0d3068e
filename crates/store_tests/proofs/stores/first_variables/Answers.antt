use Rattle.std.proofs.Common.{arith}
use Rattle.edge_bits.specs.declared.edges.Kind.TheVariants.{Bdd}
use Rattle.node_store.specs.ViewLaws.{Grown-trans, Is-from, Is-grown}
use Rattle.store_tests.proofs.stores.first_variables.Goals as goal

pub projection-a-requires : goal.projection-a-requires
projection-a-requires c = (omega arith, omega (arith, c.vars.ensures.vars, c.if-vars-lt3.false))

pub projection-b-requires : goal.projection-b-requires
projection-b-requires c = (omega arith, omega (arith, c.vars.ensures.vars, c.if-vars-lt3.false, c.projection-a.ensures.kept.grown.vars))

pub projection-c-requires : goal.projection-c-requires
projection-c-requires c = (omega arith, omega (arith, c.vars.ensures.vars, c.if-vars-lt3.false, c.projection-a.ensures.kept.grown.vars, c.projection-b.ensures.kept.grown.vars))

pub returns : goal.returns
returns c =
    let m = c.projection-b.ensures.kept.grown in let n = c.projection-c.ensures.kept.grown in
    record {
      condition = Is-grown Bdd (Grown-trans m n) (Is-from Bdd c.projection-a.ensures.projection.denotes);
      first = Is-grown Bdd n (Is-from Bdd c.projection-b.ensures.projection.denotes);
      second = Is-from Bdd c.projection-c.ensures.projection.denotes;
    }
