use Rattle.std.proofs.Common.{arith}
use Rattle.edge_bits.specs.declared.edges.Kind.TheVariants.{Bdd}
use Rattle.node_store.specs.ViewLaws.{Grown-refl, IsVariable-grown, Grown-trans, level-grown}
use Rattle.quantify_ops.proofs.CubeEdges.{left_above, left_below, left_leaf, left_own}
use Rattle.quantify_ops.proofs.products.left_of.Goals as goal

pub open-requires : goal.open-requires
open-requires g c = (Bdd, c.requires.cube.edge)

pub returns-in_default-clause-left : goal.returns-in_default-clause-left
returns-in_default-clause-left g c =
    let e = c.in_default.ensures in let m = e.kept.grown in let x = c.args.top.var in
    left_leaf _ _ c.args.cube x _ m c.requires.cube (let level = level-grown m x in let is = c.requires.level in let within = c.requires.within in let vars = m.vars in omega arith) (e.opens Bdd c.requires.cube.edge)

pub returns-then-var-top-clause-left : goal.returns-then-var-top-clause-left
returns-then-var-top-clause-left g c =
    let e = c.in-Inner.ensures in left_own _ _ _ c.args.cube c.in-Inner.hi _ c.args.top.var c.in-Inner.var e.kept.grown (Grown-refl _) c.requires.cube (e.opens Bdd c.requires.cube.edge) c.if-var-top.true

pub level-requires : goal.level-requires
level-requires g c = (Bdd, (c.in-Inner.ensures.opens Bdd c.requires.cube.edge).in_range)

pub returns-then-level-top-clause-left : goal.returns-then-level-top-clause-left
returns-then-level-top-clause-left g c =
    let e = c.in-Inner.ensures in let l = c.level.ensures in
    left_above _ _ _ c.args.cube c.in-Inner.hi _ c.args.top.var c.in-Inner.var e.kept.grown l.kept.grown c.requires.cube (e.opens Bdd c.requires.cube.edge)
    (let test = c.if-level-top.true in let is = l.level in let same = level-grown l.kept.grown c.in-Inner.var in let level = c.requires.level in let later = level-grown (Grown-trans e.kept.grown l.kept.grown) c.args.top.var in omega arith)

pub returns-else-level-top-clause-left : goal.returns-else-level-top-clause-left
returns-else-level-top-clause-left g c =
    let e = c.in-Inner.ensures in let l = c.level.ensures in let m = Grown-trans e.kept.grown l.kept.grown in
    left_below _ _ _ c.args.cube c.in-Inner.hi _ c.args.top.var c.in-Inner.var e.kept.grown l.kept.grown c.requires.cube (e.opens Bdd c.requires.cube.edge) (IsVariable-grown Bdd m c.args.top.var c.requires.in_range) c.if-var-top.false
    (let test = c.if-level-top.false in let is = l.level in let same = level-grown l.kept.grown c.in-Inner.var in let level = c.requires.level in let later = level-grown m c.args.top.var in omega arith)
