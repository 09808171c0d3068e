use Rattle.std.proofs.Common.{refl, sym, ◌∙◌}
use Rattle.edge_bits.specs.declared.edges.Kind.TheVariants.{Bdd, Zdd}
use Rattle.node_store.specs.ViewLaws.{Denotes-grown, Is-grown}
use Rattle.cover_isop.proofs.CoverSteps.{Cover-base, Cover-branches, Cover-empty, Cover-hit, never_leaf}
use Rattle.cover_isop.proofs.covering.Covering.expansion.Goals as goal

pub returns-then-index-eq-EMPTY_SLOT-clause-expanded : goal.returns-then-index-eq-EMPTY_SLOT-clause-expanded
returns-then-index-eq-EMPTY_SLOT-clause-expanded g c =
    rw c.truth.ensures (Cover-empty c.args.self.now.vars _ c.args.task.f c.requires.permanent (sym c.index.ensures ∙ c.if-index-eq-EMPTY_SLOT.true))

pub returns-then-index-eq-BASE_SLOT-clause-expanded : goal.returns-then-index-eq-BASE_SLOT-clause-expanded
returns-then-index-eq-BASE_SLOT-clause-expanded g c =
    rw c.truth-then-index-eq-BASE_SLOT.ensures (Cover-base c.args.self.now.vars _ c.args.task.f c.requires.permanent c.requires.family (sym c.index-2.ensures ∙ c.if-index-eq-BASE_SLOT.true))

pub returns-in-Some-clause-expanded : goal.returns-in-Some-clause-expanded
returns-in-Some-clause-expanded g c =
    let o = c.args.self.now in let e = c.in-Some.ensures in
    Cover-hit o.vars _ c.args.task.f o.last (Denotes-grown Bdd e.kept.grown c.requires.tells) c.in-Some.edge (rw c.key_of.ensures at e.hit)

pub unreachable-requires : goal.unreachable-requires
unreachable-requires g c =
    let m = c.in_default.ensures.kept.grown in let d = Is-grown Zdd m c.requires.family in let e = c.in-Leaf.ensures in
    never_leaf _ _ c.args.task.f _ e.kept.grown d (λ is. c.if-index-eq-EMPTY_SLOT.false (c.index.ensures ∙ is)) (λ is. c.if-index-eq-BASE_SLOT.false (c.index-2.ensures ∙ is)) (e.opens Zdd d)

pub returns-clause-expanded : goal.returns-clause-expanded
returns-clause-expanded g c =
    let o = c.args.self.now in let m = c.in_default.ensures.kept.grown in let e = c.in-Inner.ensures in
    Cover-branches o.vars o.family o.last _ _ _ c.args.task _ c.in-Inner.hi c.in-Inner.lo m e.kept.grown c.requires (e.opens Zdd (Is-grown Zdd m c.requires.family))
    refl refl c.two.ensures.f c.two-in-Inner.ensures.f
