use Rattle.std.proofs.Common.{refl, sym, ◌∙◌, subst, arith}
use Rattle.edge_bits.specs.declared.edges.Kind.TheVariants.{Zdd}
use Rattle.node_store.specs.ViewLaws.{Kept-trans, top-grown}
use Rattle.zdd_ops.proofs.Walks.{Walked, Walked-else, Walked-end_one, Walked-end_other, Walked-room, Walked-start, Walked-then, element-in}
use Rattle.zdd_ops.proofs.membership.contains.Goals as goal

pub walk-init : goal.walk-init
walk-init g c = record { room = refl; walked = subst (Walked (g.G.Grow.view c.args.store.now) (g.G.Grow.view c.args.store.now) c.args.p c.args.p c.args.bits.now) (sym c.set_bits-left.ensures) (Walked-start _ c.args.p c.args.bits.now c.requires.family) }

pub open-requires : goal.open-requires
open-requires g c = (Zdd, c.walk.invariant.walked.edge)

pub overflow_sub-var : goal.overflow_sub-var
overflow_sub-var g c = (c.in-Inner.ensures.opens Zdd c.walk.invariant.walked.edge).in_range.0

pub bounds-bits-var : goal.bounds-bits-var
bounds-bits-var g c = element-in _ _ _ c.args.p c.walk.at c.args.bits.now c.walk.left c.walk.invariant.walked c.in-Inner.ensures.kept c.in-Inner.var c.in-Inner.hi c.in-Inner.lo (c.in-Inner.ensures.opens Zdd c.walk.invariant.walked.edge) c.requires.bits

pub overflow_sub-left : goal.overflow_sub-left
overflow_sub-left g c =
    let i = c.in-Inner.ensures.opens Zdd c.walk.invariant.walked.edge in
    Walked-room _ _ _ c.args.p c.walk.at c.args.bits.now c.walk.left c.walk.invariant.walked c.in-Inner.ensures.kept c.in-Inner.var c.in-Inner.hi c.in-Inner.lo i c.if-bits-var.true
    (element-in _ _ _ c.args.p c.walk.at c.args.bits.now c.walk.left c.walk.invariant.walked c.in-Inner.ensures.kept c.in-Inner.var c.in-Inner.hi c.in-Inner.lo i c.requires.bits)

pub walk-smaller-then-bits-var : goal.walk-smaller-then-bits-var
walk-smaller-then-bits-var g c =
    let i = c.in-Inner.ensures.opens Zdd c.walk.invariant.walked.edge in let n = c.in-Inner.ensures.kept.grown.elements in let t = top-grown Zdd c.in-Inner.ensures.kept.grown c.walk.invariant.walked.edge in
    let here = i.here in let within = i.within in let down = i.hi_top in omega arith

pub walk-smaller : goal.walk-smaller
walk-smaller g c =
    let i = c.in-Inner.ensures.opens Zdd c.walk.invariant.walked.edge in let n = c.in-Inner.ensures.kept.grown.elements in let t = top-grown Zdd c.in-Inner.ensures.kept.grown c.walk.invariant.walked.edge in
    let here = i.here in let within = i.within in let down = i.lo_top in omega arith

pub walk-preserved-then-bits-var : goal.walk-preserved-then-bits-var
walk-preserved-then-bits-var g c =
    let i = c.in-Inner.ensures.opens Zdd c.walk.invariant.walked.edge in
    record {
      room = c.in-Inner.ensures.room ∙ c.walk.invariant.room;
      walked = Walked-then _ _ _ c.args.p c.walk.at c.args.bits.now c.walk.left c.walk.invariant.walked c.in-Inner.ensures.kept c.in-Inner.var c.in-Inner.hi c.in-Inner.lo i
          (element-in _ _ _ c.args.p c.walk.at c.args.bits.now c.walk.left c.walk.invariant.walked c.in-Inner.ensures.kept c.in-Inner.var c.in-Inner.hi c.in-Inner.lo i c.requires.bits) c.if-bits-var.true;
    }

pub walk-preserved : goal.walk-preserved
walk-preserved g c =
    record { room = c.in-Inner.ensures.room ∙ c.walk.invariant.room; walked = Walked-else _ _ _ c.args.p c.walk.at c.args.bits.now c.walk.left c.walk.invariant.walked c.in-Inner.ensures.kept c.in-Inner.var c.in-Inner.hi c.in-Inner.lo (c.in-Inner.ensures.opens Zdd c.walk.invariant.walked.edge) c.if-bits-var.false }

pub returns-then-value-eq1-clause-room : goal.returns-then-value-eq1-clause-room
returns-then-value-eq1-clause-room g c = c.in-Leaf.ensures.room ∙ c.walk.invariant.room

pub returns-then-value-eq1-clause-kept : goal.returns-then-value-eq1-clause-kept
returns-then-value-eq1-clause-kept g c = Kept-trans c.walk.invariant.walked.kept c.in-Leaf.ensures.kept

pub returns-then-value-eq1-clause-member : goal.returns-then-value-eq1-clause-member
returns-then-value-eq1-clause-member g c =
    Walked-end_one _ _ _ c.args.p c.walk.at c.args.bits.now c.walk.left c.walk.invariant.walked c.in-Leaf.ensures.kept c.in-Leaf.value (c.in-Leaf.ensures.opens Zdd c.walk.invariant.walked.edge) c.if-value-eq1.true

pub returns-else-value-eq1-clause-room : goal.returns-else-value-eq1-clause-room
returns-else-value-eq1-clause-room g c = c.in-Leaf.ensures.room ∙ c.walk.invariant.room

pub returns-else-value-eq1-clause-kept : goal.returns-else-value-eq1-clause-kept
returns-else-value-eq1-clause-kept g c = Kept-trans c.walk.invariant.walked.kept c.in-Leaf.ensures.kept

pub returns-else-value-eq1-clause-member : goal.returns-else-value-eq1-clause-member
returns-else-value-eq1-clause-member g c =
    Walked-end_other _ _ _ c.args.p c.walk.at c.args.bits.now c.walk.left c.walk.invariant.walked c.in-Leaf.ensures.kept c.in-Leaf.value (c.in-Leaf.ensures.opens Zdd c.walk.invariant.walked.edge) c.if-value-eq1.false
