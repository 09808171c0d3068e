use Rattle.edge_bits.specs.declared.edges.Kind.TheVariants.{Bdd}
use Rattle.quantify_ops.proofs.CubeEdges.{rest_own, rest_other, rest_leaf}
use Rattle.quantify_ops.proofs.products.rest_of.Goals as goal

pub returns-in_default-clause-rest : goal.returns-in_default-clause-rest
returns-in_default-clause-rest g c = let e = c.in_default.ensures in rest_leaf _ _ c.args.cube c.args.var _ e.kept.grown c.requires.cube (e.opens Bdd c.requires.cube.edge)

pub returns-then-top-var-clause-rest : goal.returns-then-top-var-clause-rest
returns-then-top-var-clause-rest g c =
    let e = c.in-Inner.ensures in
    rest_own _ _ c.args.cube c.in-Inner.hi _ c.args.var c.in-Inner.top e.kept.grown c.requires.cube c.if-top-var.true (e.opens Bdd c.requires.cube.edge)

pub returns-else-top-var-clause-rest : goal.returns-else-top-var-clause-rest
returns-else-top-var-clause-rest g c =
    let e = c.in-Inner.ensures in
    rest_other _ _ c.args.cube c.in-Inner.hi _ c.args.var c.in-Inner.top e.kept.grown c.requires.cube c.requires.in_range c.requires.above c.if-top-var.false (e.opens Bdd c.requires.cube.edge)
