-- The top variables of products, and what is left below them.
use Rattle.std.proofs.Common.{◌≡◌, ◌≢◌, ℕ, ap, ◌<◌, ◌≤◌, inl, inr, ℤ, refl, sym, ◌∙◌, subst, arith}
use Rattle.std.proofs.lemmas.Bool.{cases_order}
use Rattle.edge_bits.specs.declared.edges.Edge.{Edge}
use Rattle.edge_bits.specs.declared.edges.Kind.TheVariants.{Bdd}
use Rattle.function_laws.specs.Cubes.{IsExists}
use Rattle.function_laws.specs.Values.{IsFree}
use Rattle.function_laws.proofs.CubeLemmas.{times-depends, top-times, top-rest, IsExists-absent}
use Rattle.node_store.specs.Views.{View, Grown, IsInner, IsLeaf, IsVariable, bdd_at}
use Rattle.node_store.specs.ViewLaws.{Grown-trans, IsBelow-inner, IsVariable-back, IsVariable-grown, level-grown, values_at-grown}
use Rattle.node_store.proofs.TwoParts.{Lacks-leaf}
use Rattle.quantify_ops.specs.Quantified.{HasCube, IsFreeAbove, IsLeftAbove, IsLeftBelow, IsRest, StandsAbove}
use Rattle.quantify_ops.specs.QuantifiedLasts.{HasCube-grown, IsFreeAbove-back}
use Rattle.quantify_ops.proofs.SupportLaws.{opened_later}

-- the variable is the top one
pub rest_own : (v w : View) (c hi lo : Edge) (x top : ℕ) → Grown v w → HasCube v c → top ≡ x → IsInner Bdd w c (bdd_at v c) top hi lo → IsRest w c x hi
rest_own v w c hi lo x top m d same i =
    let j = subst (λ y. IsInner Bdd w c (bdd_at v c) y hi lo) same i in
    let now = HasCube-grown m d in
    let is = values_at-grown Bdd m d.edge ∙ j.splits.is in
    let free_hi : IsFree (bdd_at w hi) x = j.splits.hi_below x j.in_range (omega arith) in
    let free_lo : IsFree (bdd_at w lo) x = j.splits.lo_below x j.in_range (omega arith) in
    record {
      left = record { edge = j.splits.hi_is; cube = top-rest x (bdd_at w c) (bdd_at w hi) (bdd_at w lo) now.cube is free_hi free_lo j.proper };
      is = top-times x (bdd_at w c) (bdd_at w hi) (bdd_at w lo) now.cube is free_hi free_lo j.proper;
    }

-- it isn't, and no variable above it is
pub rest_other : (v w : View) (c hi lo : Edge) (x top : ℕ) → Grown v w → HasCube v c → IsVariable Bdd v x → IsFreeAbove v (v.level x) (bdd_at v c) → (top ≡ x → ⊥)
    → IsInner Bdd w c (bdd_at v c) top hi lo → IsFree (bdd_at w c) x
rest_other v w c hi lo x top m d xn above apart i = elim (cases_order (w.level top) (w.level x)) [
  | inl same ↦ absurd (apart (sym (i.alone x (IsVariable-grown Bdd m x xn) (sym same))))
  | inr order ↦ elim order [
    | inl higher ↦
        let r = rest_own v w c hi lo top top m d refl i in
        let lt : v.level top < v.level x = omega (arith, higher, level-grown m top, level-grown m x) in
        let free = above top (IsVariable-back Bdd m top i.in_range) lt in
        absurd (times-depends top (bdd_at w hi) r.left.cube (subst (λ f. IsFree f top) (sym (values_at-grown Bdd m d.edge) ∙ r.is) free))
    | inr lower ↦ subst (λ f. IsFree f x) (sym (values_at-grown Bdd m d.edge)) (IsBelow-inner Bdd x i lower x (IsVariable-grown Bdd m x xn) (omega arith))
  ]
]

pub rest_leaf : (v w : View) (c : Edge) (x : ℕ) (z : ℤ) → Grown v w → HasCube v c → IsLeaf Bdd w c (bdd_at v c) z → IsFree (bdd_at w c) x
rest_leaf v w c x z m d i = subst (λ f. IsFree f x) (sym (values_at-grown Bdd m d.edge)) (Lacks-leaf Bdd c (bdd_at v c) z i.leaf x)

-- a step down a product
pub below_step : (v w1 w2 : View) (c d hi lo : Edge) (top level : ℕ) → Grown v w1 → Grown w1 w2 → HasCube v c → HasCube v d → StandsAbove v level (bdd_at v d) (bdd_at v c)
    → IsInner Bdd w1 d (bdd_at v d) top hi lo → w1.level top < level → HasCube w2 hi × StandsAbove w2 level (bdd_at w2 hi) (bdd_at w2 c)
below_step v w1 w2 c d hi lo top level m1 m2 dc dd stands i lt =
    let r = rest_own v w1 d hi lo top top m1 dd refl i in
    let m = Grown-trans m1 m2 in (
      HasCube-grown m2 r.left,
      λ a h free e.
          let here = IsFreeAbove-back level a m free in
          let high : v.level top < level = omega (arith, lt, level-grown m1 top) in
          let e1 = subst (λ f. IsExists f a h) (values_at-grown Bdd m2 r.left.edge) e in
          let e2 = IsExists-absent top (bdd_at w1 hi) a h r.left.cube (here top (IsVariable-back Bdd m1 top i.in_range) high) e1 in
          let e3 = subst (λ f. IsExists f a h) (sym r.is ∙ values_at-grown Bdd m1 dd.edge) e2 in
          subst (λ f. IsExists f a h) (sym (values_at-grown Bdd m dc.edge)) (stands a h here e3),
    )

-- what is left of a product that was opened
module _ (v w1 w2 : View) (c hi lo : Edge) (x top : ℕ) (m : Grown v w1) (n : Grown w1 w2) (d : HasCube v c) (i : IsInner Bdd w1 c (bdd_at v c) top hi lo) where
  now : IsInner Bdd w2 c (bdd_at v c) top hi lo
  now = opened_later v w1 w2 c hi lo top m n d.edge i

  all : Grown v w2
  all = Grown-trans m n

  free_from_top : (u : ℕ) → IsVariable Bdd w2 u → w2.level u < w2.level top → IsFree (bdd_at w2 c) u
  free_from_top u un lt = subst (λ f. IsFree f u) (sym (values_at-grown Bdd all d.edge)) (IsBelow-inner Bdd u now lt u un (omega arith))

  pub left_own : top ≡ x → IsLeftBelow w2 c x hi
  left_own same =
      let r = rest_own v w2 c hi lo x top all d same now in
      let level = ap w2.level same in let here = now.here in let lower = now.hi_top in
      record {
        left = r.left;
        step = inl r.is;
        above = λ u un lt. free_from_top u un (omega arith);
        from = omega arith;
        lower = omega arith;
      }

  pub left_above : w2.level top < w2.level x → IsLeftAbove w2 c x hi
  left_above lt =
      let level = level-grown n top in
      let step = below_step v w1 w2 c c hi lo top (w2.level x) m n d d (λ a h free e. e) i (omega arith) in
      let here = now.here in let lower = now.hi_top in
      record { left = step.0; stands = step.1; above = omega arith; lower = omega arith }

  pub left_below : IsVariable Bdd w2 x → (top ≡ x → ⊥) → w2.level x ≤ w2.level top → IsLeftBelow w2 c x c
  left_below xn apart le =
      let other : w2.level x ≢ w2.level top = λ same. apart (sym (now.alone x xn same)) in
      let lt : w2.level x < w2.level top = omega (arith, other, le) in
      let here = now.here in
      record {
        left = HasCube-grown all d;
        step = inr (refl, free_from_top x xn lt);
        above = λ u un higher. free_from_top u un (omega arith);
        from = omega arith;
        lower = omega arith;
      }

pub left_leaf : (v w : View) (c : Edge) (x : ℕ) (z : ℤ) → Grown v w → HasCube v c → w.level x < w.vars → IsLeaf Bdd w c (bdd_at v c) z → IsLeftBelow w c x c
left_leaf v w c x z m d within i =
    let free : (u : ℕ) → IsFree (bdd_at w c) u = λ u. subst (λ f. IsFree f u) (sym (values_at-grown Bdd m d.edge)) (Lacks-leaf Bdd c (bdd_at v c) z i.leaf u) in
    let here = i.here in
    record { left = HasCube-grown m d; step = inr (refl, free x); above = λ u un lt. free u; from = omega arith; lower = omega arith }
