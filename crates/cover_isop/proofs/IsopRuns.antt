-- Whole runs of Morreale's calls, and that for a half's function within another.
use Rattle.std.proofs.Common.{◌≡◌, ℕ, zero, suc, ◌+◌, ◌≤◌, ◌==◌, true, false, List, [], ◌∷◌, length, refl, sym, ap, ap₂, ◌∙◌, subst, arith}
use Rattle.std.proofs.lemmas.Bool.{eqb-true, eq-eqb}
use Rattle.std.specs.List.{range_with_len}
use Rattle.edge_bits.specs.declared.edges.Edge.{Edge}
use Rattle.edge_bits.specs.declared.edges.Kind.TheVariants.{Bdd, Zdd}
use Rattle.function_laws.specs.Kinds.{Denoted}
use Rattle.function_laws.specs.MorrealeCalls.{Interval, interval, less}
use Rattle.function_laws.proofs.DistinctLemmas.{Apart, In, no_longer}
use Rattle.node_store.specs.Memo.{by_level}
use Rattle.node_store.specs.Views.{View, AreTwo, Denotes, Grown, Permanent, bdd_at}
use Rattle.node_store.specs.ViewLaws.{Is-from, Is-grown, values_at-grown, values_at-is}
use Rattle.node_store.specs.declared.operator.Task.{Task}
use Rattle.cover_isop.specs.Isops.{HasBounds, IsCallIn, IsHalf, MorrealeAnswers, MorrealeDue, bounds_at, cover_in, function_in, half_at, isop_work, morreale_depth, order_in}
use Rattle.cover_isop.specs.IsopLasts.{HasBounds-grown, bounds-grown, call-in-grown, cover-in-grown, function-in-grown}
use Rattle.cover_isop.proofs.CallSteps.{root-call, whole-work}
use Rattle.cover_isop.proofs.LevelOrders.{Once, by_level-once, by_level-within, within-range}
use Rattle.cover_isop.proofs.MorrealeLaws.{left-most}

-- an order has no more variables than there are
range-length : (a n : ℕ) → length (range_with_len a n) ≡ n
range-length a zero = refl
range-length a (suc n) = ap suc (range-length (a + 1) n)

apart-of : (xs : List ℕ) → Once xs → Apart (λ a b. a == b) xs
apart-of [] once = tt
apart-of (x ∷ xs) once = ((λ y i same. once.0 (subst (λ z. In z xs) (sym (eqb-true x y same)) i)), apart-of xs once.1)

order-length : (w : View) → length (order_in w) ≤ w.vars
order-length w =
    let most = no_longer (λ a b. a == b) (λ x y same. eq-eqb y x (sym (eqb-true x y same))) (λ x y z p q. eq-eqb x z (eqb-true x y p ∙ eqb-true y z q)) (by_level w.vars w.level) (range_with_len 0 w.vars)
    (apart-of (by_level w.vars w.level) (by_level-once w.vars w.level))
    (λ v i. (v, within-range 0 w.vars v (omega arith) (let b = by_level-within w.vars w.level v i in omega (arith, b)), eq-eqb v v refl))
    in
    let n = range-length 0 w.vars in omega (arith, most, n)

pub depth-most : (w : View) (t : Task) → morreale_depth w t ≤ w.vars
depth-most w t = let a = left-most w.vars (order_in w) (bounds_at w t.f t.g) in let b = order-length w in omega (arith, a, b)

-- the first task
pub Root-due : (w : View) (l u : Edge) (c : Task) → Permanent w → HasBounds w l u → c.f ≡ l → c.g ≡ u → MorrealeDue l u w c
Root-due w l u c p d ef eg = record {
  permanent = p;
  root = d;
  bounds = rw (ef, eg) d;
  call = subst (IsCallIn w (bounds_at w l u)) (ap₂ (bounds_at w) (sym ef) (sym eg)) (root-call w.vars w.elements (order_in w) (bounds_at w l u));
}

same_bounds : (v w : View) (l u : Edge) (c : Task) → Grown v w → AreTwo Bdd v l u → c.f ≡ l → c.g ≡ u → bounds_at w c.f c.g ≡ bounds_at v l u
same_bounds v w l u c m d ef eg = ap₂ (bounds_at w) ef eg ∙ bounds-grown m d

pub Function-root : (v w : View) (l u : Edge) (c : Task) (e : Edge) → Grown v w → AreTwo Bdd v l u → c.f ≡ l → c.g ≡ u → MorrealeAnswers false w c e → Denotes Bdd w e (function_in v (bounds_at v l u))
Function-root v w l u c e m d ef eg is = subst (Denotes Bdd w e) (ap (function_in w) (same_bounds v w l u c m d ef eg) ∙ function-in-grown m (bounds_at v l u)) is

pub Cover-root : (v w : View) (l u : Edge) (c : Task) (e : Edge) → Grown v w → AreTwo Bdd v l u → c.f ≡ l → c.g ≡ u → MorrealeAnswers true w c e → Denotes Zdd w e (cover_in v (bounds_at v l u))
Cover-root v w l u c e m d ef eg is = subst (Denotes Zdd w e) (ap (cover_in w) (same_bounds v w l u c m d ef eg) ∙ cover-in-grown m (bounds_at v l u)) is

-- the run for a half's function, on an edge that denotes its lower bound
module _ (l u : Edge) (w : View) (a b c : Edge) (h : IsHalf l u w a b c) (v : View) (m : Grown w v) (e : Edge) (is : Denotes Bdd v e (less (bdd_at w a) (bdd_at w c))) where
  half-bounds : bounds_at v e b ≡ half_at w a b c
  half-bounds = ap₂ interval (values_at-is Bdd is) (values_at-grown Bdd m h.two.second)

  pub Half-has : HasBounds v e b
  Half-has = (let now = HasBounds-grown m h.root in record { variables = now.variables; literals = now.literals; two = record { first = Is-from Bdd is; second = Is-grown Bdd m h.two.second } })

  half-call : IsCallIn v (bounds_at v l u) (bounds_at v e b)
  half-call = subst (λ (y : Interval). IsCallIn v (bounds_at v l u) y) (sym half-bounds)
      (subst (λ (y : Interval). IsCallIn v y (half_at w a b c)) (sym (bounds-grown m h.root.two)) (call-in-grown m (bounds_at w l u) (half_at w a b c) h.call))

  pub Half-work : (F : Denoted) → isop_work e b v F → isop_work l u v F
  Half-work = whole-work v.vars v.elements (order_in v) (bounds_at v l u) (bounds_at v e b) half-call

  pub Half-is : function_in v (bounds_at v e b) ≡ function_in w (half_at w a b c)
  Half-is = ap (function_in v) half-bounds ∙ function-in-grown m (half_at w a b c)
