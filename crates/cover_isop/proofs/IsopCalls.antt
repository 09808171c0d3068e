-- The call for an irredundant cover, in the scratch that the store lends.
use Rattle.std.proofs.Common.{◌≡◌, ℕ, ◌+◌, ◌*◌, ◌<◌, ◌≤◌, Bool, true, true≢false, ◌⊎◌, inl, inr, ℤ, Result, Ok, Err, IfOk, sym, ap, ◌∙◌, subst, arith}
use Rattle.edge_bits.specs.Assignments.{set_bit}
use Rattle.edge_bits.proofs.AssignmentLemmas.{bit-set_same}
use Rattle.edge_bits.specs.declared.edges.Edge.{Edge}
use Rattle.edge_bits.specs.declared.edges.Kind.TheVariants.{Bdd, Zdd}
use Rattle.function_laws.specs.IrredundantCovers.{IsIrredundant}
use Rattle.function_laws.specs.Values.{projection}
use Rattle.function_laws.proofs.CoverLaws.{bit-zero}
use Rattle.function_laws.proofs.CoverNeeds.{answers_are_irredundant}
use Rattle.node_store.specs.Memo.{Implies}
use Rattle.node_store.specs.Operations.{halts}
use Rattle.node_store.specs.Views.{View, AreTwo, Denotes, Grown, IsLeafOf, IsProjection, Opens, bdd_at, family_at, logic_one, logic_zero}
use Rattle.std.proofs.lemmas.Bool.{cases_lt}
use Rattle.node_store.specs.ViewLaws.{Grown-trans, Is-from, IsProjection-grown, level-grown, values_at-grown, values_at-is}
use Rattle.node_store.specs.declared.grow.Opened.{Opened}
use Rattle.node_store.specs.declared.grow.Stop.{Stop}
use Rattle.node_store.specs.declared.grow.Opened.TheVariants.{Inner, Leaf}
use Rattle.cover_isop.specs.Isops.{HasLevels, bounds_at, cover_in, order_in}
use Rattle.cover_isop.specs.IsopLasts.{bounds-grown, cover-in-grown}
use Rattle.cover_isop.proofs.LevelOrders.{by_level-has, by_level-once, by_level-within, vars_of}

-- a projection is no constant
no_constant : (e : Edge) (f : ℕ → Bool) (x : ℤ) (v : ℕ) → IsLeafOf Bdd e f x → f ≡ projection v → ⊥
no_constant e f x v leaf same = by_leaf leaf same
  where
    by_leaf : {e : Edge} {f : ℕ → Bool} {x : ℤ} → IsLeafOf Bdd e f x → f ≡ projection v → ⊥
    by_leaf logic_one same = true≢false (ap (λ (h : ℕ → Bool). h 0) same ∙ bit-zero v)
    by_leaf logic_zero same = true≢false (sym (ap (λ (h : ℕ → Bool). h (set_bit 0 v true)) same ∙ bit-set_same 0 v true))

-- its node shows that its variable has a level of the order
pub Projection-level : (w : View) (v : ℕ) (e : Edge) (o : Opened) → IsProjection w v e → Opens Bdd w e (bdd_at w e) o → w.level v < w.vars
Projection-level w v e (Inner u hi lo) p i = let a = p.top in let b = i.here in let c = i.within in omega (arith, a, b, c)
Projection-level w v e (Leaf x) p i = absurd (no_constant e (bdd_at w e) x v i.leaf (values_at-is Bdd p.denotes))

pub HasLevels-back : {v w : View} → Grown v w → HasLevels w → HasLevels v
HasLevels-back m has x lt = let n = m.vars in let l = level-grown m x in let h = has x (omega (arith, n, lt)) in omega (arith, n, l, h)

-- the answer is an irredundant cover
pub Irredundant : (w : View) (l u : Edge) → HasLevels w → 2 * w.vars ≤ w.elements → Implies (bdd_at w l) (bdd_at w u) → IsIrredundant w.vars w.elements (bdd_at w l) (bdd_at w u) (cover_in w (bounds_at w l u))
Irredundant w l u has few ordered = answers_are_irredundant w.vars w.elements few (order_in w) (vars_of w.vars (order_in w) (by_level-once w.vars w.level) (by_level-within w.vars w.level)) (bounds_at w l u)
    (λ v lt out. absurd (out (by_level-has w.vars w.level v lt (has v lt))))
    (λ v lt out. absurd (out (by_level-has w.vars w.level v lt (has v lt))))
    (λ k below. ordered k)

pub same_cover : {v w : View} {l u : Edge} → Grown v w → AreTwo Bdd v l u → cover_in w (bounds_at w l u) ≡ cover_in v (bounds_at v l u)
same_cover {v} {w} {l} {u} m d = ap (cover_in w) (bounds-grown m d) ∙ cover-in-grown m (bounds_at v l u)

pub Irredundant-later : (v w : View) (l u e : Edge) → HasLevels v → 2 * v.vars ≤ v.elements → Implies (bdd_at v l) (bdd_at v u) → Denotes Zdd w e (cover_in v (bounds_at v l u)) → IsIrredundant v.vars v.elements (bdd_at v l) (bdd_at v u) (family_at w e)
Irredundant-later v w l u e has few ordered is = subst (IsIrredundant v.vars v.elements (bdd_at v l) (bdd_at v u)) (sym (values_at-is Zdd is)) (Irredundant v l u has few ordered)

-- what holds of each answer of an outcome that is never out of range
pub each-answer : {P Q : Edge → Type 0} (r : Result Edge Stop) → ((e : Edge) → P e → Q e) → IfOk (halts r) P → IfOk r Q
each-answer (Ok e) more ok = more e ok
each-answer (Err stop) more ok = tt

-- one variable more has a level
pub Levels-more : (v w x : View) (i : ℕ) (e : Edge) (o : Opened) → Grown v w → Grown w x → ((u : ℕ) → u < i → v.level u < v.vars) → IsProjection w i e → Opens Bdd x e (bdd_at w e) o → (u : ℕ) → u < i + 1 → x.level u < x.vars
Levels-more v w x i e o m n before p opens u lt = at (cases_lt u i)
  where
    later : IsProjection x i e
    later = IsProjection-grown n p

    here : x.level i < x.vars
    here = Projection-level x i e o later (subst (λ (f : ℕ → Bool). Opens Bdd x e f o) (sym (values_at-grown Bdd n (Is-from Bdd p.denotes))) opens)

    at : (u < i) ⊎ (i ≤ u) → x.level u < x.vars
    at (inl less) = let a = before u less in let l = level-grown (Grown-trans m n) u in let k = (Grown-trans m n).vars in omega (arith, a, l, k)
    at (inr from) = let same : u ≡ i = omega (arith, lt, from) in subst (λ y. x.level y < x.vars) (sym same) here
