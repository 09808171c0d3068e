use Rattle.std.proofs.Common.{arith}
use Rattle.edge_bits.specs.declared.edges.Kind.TheVariants.{Bdd}
use Rattle.node_store.specs.ViewLaws.{Grown-trans, IsVariable-grown, level-grown, Kept-trans}
use Rattle.quantify_ops.proofs.CompositionLaws.{found_leaf, found_own, found_below, found_above}
use Rattle.quantify_ops.proofs.composition.find.Goals as goal

pub returns-in_default-clause-found : goal.returns-in_default-clause-found
returns-in_default-clause-found g c = let e = c.in_default.ensures in found_leaf _ _ c.args.f c.args.var _ e.kept.grown c.requires.edge (e.opens Bdd c.requires.edge)

pub returns-then-top-var-clause-found : goal.returns-then-top-var-clause-found
returns-then-top-var-clause-found g c =
    let e = c.in-Inner.ensures in found_own _ _ c.args.f c.in-Inner.hi c.in-Inner.lo c.args.var c.in-Inner.top e.kept.grown c.requires.edge c.if-top-var.true (e.opens Bdd c.requires.edge)

pub level-top_level-requires : goal.level-top_level-requires
level-top_level-requires g c = (Bdd, IsVariable-grown Bdd c.level-level.ensures.kept.grown c.in-Inner.top (c.in-Inner.ensures.opens Bdd c.requires.edge).in_range)

pub returns-then-level-top_level-clause-found : goal.returns-then-level-top_level-clause-found
returns-then-level-top_level-clause-found g c =
    let e = c.in-Inner.ensures in let m1 = c.level-level.ensures.kept.grown in let m2 = c.level-top_level.ensures.kept.grown in
    let a = c.level-level.ensures.level in let b = c.level-top_level.ensures.level in let l = level-grown m1 c.in-Inner.top in let lt = c.if-level-top_level.true in
    found_below _ _ _ c.args.f c.in-Inner.hi c.in-Inner.lo c.args.var c.in-Inner.top e.kept.grown (Grown-trans m1 m2) c.requires.edge c.requires.in_range (e.opens Bdd c.requires.edge) (omega arith)

pub returns-clause-found : goal.returns-clause-found
returns-clause-found g c =
    let e = c.in-Inner.ensures in let m1 = c.level-level.ensures.kept.grown in let m2 = c.level-top_level.ensures.kept.grown in
    let a = c.level-level.ensures.level in let b = c.level-top_level.ensures.level in let l = level-grown m1 c.in-Inner.top in let ge = c.if-level-top_level.false in
    found_above _ _ _ c.args.f c.in-Inner.hi c.in-Inner.lo c.args.var c.in-Inner.top e.kept.grown (Grown-trans m1 m2) c.requires.edge c.requires.in_range (e.opens Bdd c.requires.edge) c.if-top-var.false (omega arith)

pub returns-then-level-top_level-clause-kept : goal.returns-then-level-top_level-clause-kept
returns-then-level-top_level-clause-kept g c = Kept-trans c.in-Inner.ensures.kept (Kept-trans c.level-level.ensures.kept c.level-top_level.ensures.kept)

pub returns-clause-kept : goal.returns-clause-kept
returns-clause-kept g c = Kept-trans c.in-Inner.ensures.kept (Kept-trans c.level-level.ensures.kept c.level-top_level.ensures.kept)
