use Rattle.std.proofs.Common.{◌≡◌, ◌∙◌, ◌<◌, ◌+◌, ◌-◌, refl, ap, arith, get_or, false, rules, SFits, w64}
use Rattle.std.proofs.lemmas.Int.{to_z-of_z}
use Rattle.edge_bits.specs.declared.edges.Kind.{Kind}
use Rattle.function_laws.specs.Values.{assignment_of}
use Rattle.node_store.specs.Views.{Is, values_at}
use Rattle.node_store.specs.ViewLaws.{Kept-refl, Kept-trans, top-grown}
use Rattle.node_store.specs.Listed.{number_of}
use Rattle.value_walk.specs.Walking.{CanWalk}
use Rattle.function_laws.proofs.BitLists.{bit-assignment_of}
use Rattle.value_walk.proofs.WalkingLemmas.{walk-inner, walk-leaf, walk-levels, walk-top, walk-within}
use Rattle.value_walk.proofs.walking.value_at.Goals as goal

pub walk-init : goal.walk-init
walk-init g c = record { edge = c.requires.edge; leads = λ k can. (can, refl); kept = Kept-refl (g.G.Grow.view c.args.store.now) }

pub open-requires : goal.open-requires
open-requires g c = (c.walk.invariant.edge.0, c.walk.invariant.edge.1.1)

pub bounds-bits-var : goal.bounds-bits-var
bounds-bits-var g c =
    let edge = c.walk.invariant.edge in
    let b = g.G.Grow.view c.open.new.self in
    let inner = c.in-Inner.ensures.opens edge.0 edge.1.1 in
    omega (arith, walk-within edge.0 b c.in-Inner.var edge.1.0 inner.in_range, c.in-Inner.ensures.kept.grown.vars, c.walk.invariant.kept.grown.vars, c.requires.bits)

pub walk-smaller : goal.walk-smaller
walk-smaller g c =
    let a = g.G.Grow.view c.walk.store in
    let b = g.G.Grow.view c.open.new.self in
    let edge = c.walk.invariant.edge in
    let inner = c.in-Inner.ensures.opens edge.0 edge.1.1 in
    let grown = c.in-Inner.ensures.kept.grown in
    let next : b.level c.in-Inner.var < b.top c.arc-at.result.index =
    walk-top edge.0 b c.walk.at c.in-Inner.hi c.in-Inner.lo (values_at edge.0 a c.walk.at) c.in-Inner.var _ c.arc-at.result inner c.arc-at.ensures in
    let top : b.top c.walk.at.index ≡ a.top c.walk.at.index = top-grown edge.0 grown edge.1.1 in
    let smaller : b.vars + 1 - b.top c.arc-at.result.index < a.vars + 1 - a.top c.walk.at.index =
    omega (arith, next, top, inner.here, inner.within, walk-levels edge.0 b edge.1.0, grown.vars) in
    smaller

pub walk-preserved : goal.walk-preserved
walk-preserved g c =
    let a = g.G.Grow.view c.walk.store in
    let b = g.G.Grow.view c.open.new.self in
    let bits = c.args.bits.now in
    let at = assignment_of bits in
    let var = c.in-Inner.var in
    let edge = c.walk.invariant.edge in
    let next : (k : Kind) → CanWalk k a c.walk.at → Is k b c.arc-at.result × (values_at k b c.arc-at.result at ≡ values_at k a c.walk.at at) =
    λ k can. walk-inner k b c.walk.at c.in-Inner.hi c.in-Inner.lo (values_at k a c.walk.at) var at (get_or bits var false) c.arc-at.result can.0
    (c.in-Inner.ensures.opens k can.1) (bit-assignment_of bits var) c.arc-at.ensures in
    record {
      edge = (edge.0, (edge.1.0, (next edge.0 edge.1).0));
      leads = λ k can. let led = c.walk.invariant.leads k can in let one = next k led.0 in ((led.0.0, one.0), one.1 ∙ led.1);
      kept = Kept-trans c.walk.invariant.kept c.in-Inner.ensures.kept;
    }

pub returns-in-Leaf-clause-value : goal.returns-in-Leaf-clause-value
returns-in-Leaf-clause-value g c = λ k can.
    let a = g.G.Grow.view c.walk.store in
    let b = g.G.Grow.view c.open.new.self in
    let at = assignment_of c.args.bits.now in
    let led = c.walk.invariant.leads k can in
    let fit : SFits w64 c.in-Leaf.value = search rules in
    to_z-of_z w64 c.in-Leaf.value fit ∙ walk-leaf k b c.walk.at (values_at k a c.walk.at) c.in-Leaf.value at led.0.0 (c.in-Leaf.ensures.opens k led.0.1) ∙ ap (number_of k) led.1

pub returns-in-Leaf-clause-kept : goal.returns-in-Leaf-clause-kept
returns-in-Leaf-clause-kept g c = Kept-trans c.walk.invariant.kept c.in-Leaf.ensures.kept
