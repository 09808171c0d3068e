use Rattle.std.proofs.Common.{◌≡◌, ◌+◌, ℕ, ℤ, pos, length, get_or, eqb, ltb, true, false, refl, ap, sym, ◌∙◌, subst, arith, rules, SFits, w64, cond}
use Rattle.std.proofs.lemmas.Int.{to_z-of_z}
use Rattle.edge_bits.specs.Permanent.{base_slot}
use Rattle.edge_bits.specs.declared.edges.Edge.{Edge}
use Rattle.function_laws.specs.Values.{assignment_of}
use Rattle.node_store.specs.ViewLaws.{Kept-refl, Kept-trans}
use Rattle.step_store.specs.Walking.{ones}
use Rattle.step_store.proofs.WalkLemmas.{IsWay, way_begins, way_on, way_path, way_short, way_value}
use Rattle.step_store.proofs.walking.walk.Goals as goal
use Rattle.step_store.proofs.walking.walk.Goals.{then-bits-place_of, else-bits-place_of}

pub loop-init : goal.loop-init
loop-init g c = let w = g.S.Walks.sees c.args.seat.now in record {
  own = c.requires.own;
  table = refl;
  rest = refl;
  kept = Kept-refl w;
  loads = omega arith;
  few = omega arith;
  way = way_begins w c.args.edge c.args.bits.now c.requires.edge;
}

pub returns-in-Leaf-clause-kept : goal.returns-in-Leaf-clause-kept
returns-in-Leaf-clause-kept g c = Kept-trans c.loop.invariant.kept c.in-Leaf.ensures.kept

pub returns-in-Leaf-clause-value : goal.returns-in-Leaf-clause-value
returns-in-Leaf-clause-value g c = λ k is.
    let fit : SFits w64 c.value_at.result = search rules in
    let fits : SFits w64 c.in-Leaf.value = search rules in
    let total = ones (length c.args.bits.now) (assignment_of c.args.bits.now) in
    to_z-of_z w64 c.value_at.result fit ∙ c.value_at.ensures
    ∙ ap (λ (x : ℤ). cond (eqb c.loop.at.index base_slot) (cond (ltb c.loop.taken total) (pos 0) x) x) (to_z-of_z w64 c.in-Leaf.value fits)
    ∙ way_value (g.S.Walks.sees c.args.seat.now) (g.S.Walks.sees c.loop.seat) (g.S.Walks.sees c.look.new.seat) c.args.edge c.args.bits.now c.loop.at c.loop.taken c.loop.counter c.in-Leaf.value
    (g.met.S.Walks.stands c.loop.seat c.loop.invariant.own) c.loop.invariant.way c.in-Leaf.ensures.tells k is

pub returns-in-Leaf-clause-path : goal.returns-in-Leaf-clause-path
returns-in-Leaf-clause-path g c =
    way_path (g.S.Walks.sees c.args.seat.now) (g.S.Walks.sees c.loop.seat) c.args.edge c.args.bits.now c.loop.at c.loop.taken c.loop.counter (g.S.Walks.loads c.args.seat.now) (g.S.Walks.loads c.look.new.seat) c.loop.invariant.way
    (let a = c.look.ensures.counted in let b = c.loop.invariant.loads in omega (arith, a, b))

pub loop-preserved : goal.loop-preserved
loop-preserved g c =
    let start = g.S.Walks.sees c.args.seat.now in
    let now = g.S.Walks.sees c.loop.seat in
    let next = g.S.Walks.sees c.look.new.seat in
    let kept = Kept-trans c.loop.invariant.kept c.in-Inner.ensures.kept in
    let a = c.in-Inner.ensures.counted in
    let b = c.loop.invariant.loads in
    let few = c.loop.invariant.few in
    elim c.if-bits-place_of.branch [
      | then-bits-place_of w ↦ (
          let t = w.taken-is in
          let on = way_on start now next c.args.edge c.args.bits.now c.loop.at c.in-Inner.hi c.in-Inner.lo c.in-Inner.var c.loop.taken c.loop.counter true kept.grown c.loop.invariant.way c.in-Inner.ensures.tells
          (ap (λ (n : ℕ). get_or c.args.bits.now n false) (sym c.place_of.ensures) ∙ w.if-bits-place_of.true) in record {
            own = c.in-Inner.ensures.own;
            table = c.in-Inner.ensures.home.0 ∙ c.loop.invariant.table;
            rest = c.in-Inner.ensures.home.1 ∙ c.loop.invariant.rest;
            kept = kept;
            loads = omega (arith, a, b);
            few = omega (arith, t, few);
            way = subst (λ (y : Edge × ℕ). IsWay start next c.args.edge c.args.bits.now y.0 y.1 (c.loop.counter + 1)) (λ i. (sym w.at-is i, sym w.taken-is i)) on;
          })
      | else-bits-place_of w ↦ (
          let t = w.taken-is in
          let on = way_on start now next c.args.edge c.args.bits.now c.loop.at c.in-Inner.hi c.in-Inner.lo c.in-Inner.var c.loop.taken c.loop.counter false kept.grown c.loop.invariant.way c.in-Inner.ensures.tells
          (ap (λ (n : ℕ). get_or c.args.bits.now n false) (sym c.place_of.ensures) ∙ w.if-bits-place_of.false) in
          let same : c.loop.taken + 0 ≡ c.if-bits-place_of.taken = omega (arith, t) in record {
            own = c.in-Inner.ensures.own;
            table = c.in-Inner.ensures.home.0 ∙ c.loop.invariant.table;
            rest = c.in-Inner.ensures.home.1 ∙ c.loop.invariant.rest;
            kept = kept;
            loads = omega (arith, a, b);
            few = omega (arith, t, few);
            way = subst (λ (y : Edge × ℕ). IsWay start next c.args.edge c.args.bits.now y.0 y.1 (c.loop.counter + 1)) (λ i. (sym w.at-is i, same i)) on;
          })
    ]

pub unreachable-requires : goal.unreachable-requires
unreachable-requires g c =
    let s = way_short (g.S.Walks.sees c.args.seat.now) (g.S.Walks.sees c.loop.seat) c.args.edge c.args.bits.now c.loop.at c.loop.taken c.loop.counter c.loop.invariant.way in
    let f = c.loop-test.false in omega (arith, s, f)
