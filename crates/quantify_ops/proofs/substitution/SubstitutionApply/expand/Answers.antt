use Rattle.edge_bits.specs.declared.edges.Kind.TheVariants.{Bdd}
use Rattle.node_store.specs.ViewLaws.{Kept-trans}
use Rattle.node_store.specs.WorkLaws.{Moves-kept}
use Rattle.quantify_ops.proofs.SubstitutionLaws.{substitute_leaf, substitute_below, Substitute-branches}
use Rattle.quantify_ops.proofs.substitution.SubstitutionApply.expand.Goals as goal

pub returns-in_default-clause-expanded : goal.returns-in_default-clause-expanded
returns-in_default-clause-expanded g c =
    let e = c.in_default.ensures in substitute_leaf _ _ c.args.task.f c.args.self.now.pairs.now _ e.kept.grown c.requires.edge (e.opens Bdd c.requires.edge)

pub level-level-requires : goal.level-level-requires
level-level-requires g c = (Bdd, (c.in-Inner.ensures.opens Bdd c.requires.edge).in_range)

pub returns-then-ends_above-clause-expanded : goal.returns-then-ends_above-clause-expanded
returns-then-ends_above-clause-expanded g c =
    let o = c.args.self.now in let e = c.in-Inner.ensures in
    substitute_below o.f o.pairs.now o.lowest _ _ _ c.args.task c.in-Inner.hi c.in-Inner.lo c.in-Inner.var c.level-level.result e.kept.grown c.level-level.ensures.kept.grown c.requires
    (e.opens Bdd c.requires.edge) c.level-level.ensures.level (c.ends_above.ensures c.if-ends_above.true)

pub returns-clause-expanded : goal.returns-clause-expanded
returns-clause-expanded g c =
    let o = c.args.self.now in let e = c.in-Inner.ensures in
    Substitute-branches o.f o.pairs.now o.lowest _ _ _ c.args.task c.two.result c.two-2.result c.in-Inner.var c.in-Inner.hi c.in-Inner.lo c.requires e.kept.grown (e.opens Bdd c.requires.edge)
    c.level-level.ensures.kept.grown c.two.ensures.f c.two-2.ensures.f

pub returns-then-ends_above-clause-moved : goal.returns-then-ends_above-clause-moved
returns-then-ends_above-clause-moved g c = Moves-kept _ _ _ _ (Kept-trans c.in-Inner.ensures.kept c.level-level.ensures.kept)

pub returns-clause-moved : goal.returns-clause-moved
returns-clause-moved g c = Moves-kept _ _ _ _ (Kept-trans c.in-Inner.ensures.kept c.level-level.ensures.kept)
