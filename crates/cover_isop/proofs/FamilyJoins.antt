-- The cover of a task, from those of its three calls.
use Rattle.std.proofs.Common.{◌≡◌, ℕ, ◌+◌, ◌*◌, ◌<◌, Bool, true, Result, sym, ap, ap₂, ◌∙◌, subst, arith}
use Rattle.edge_bits.specs.Permanent.{first_element}
use Rattle.edge_bits.specs.Reading.{element_of}
use Rattle.edge_bits.specs.declared.edges.Edge.{Edge}
use Rattle.edge_bits.specs.declared.edges.Kind.TheVariants.{Zdd}
use Rattle.function_laws.specs.Families.{change, union}
use Rattle.function_laws.specs.Kinds.{ZddFamily}
use Rattle.function_laws.specs.MorrealeCalls.{Interval, IsSimpleWork, family, united}
use Rattle.node_store.specs.Operations.{RunsTo, halts}
use Rattle.node_store.specs.Views.{View, AreTwo, Denotes, Grown, Is, IsVariable, family_at}
use Rattle.node_store.specs.ViewLaws.{Denotes-grown, Grown-refl, Is-from, Is-grown, IsVariable-grown, values_at-is}
use Rattle.node_store.specs.declared.grow.Stop.{Stop}
use Rattle.node_store.specs.declared.operator.Task.{Task}
use Rattle.zdd_ops.specs.Subsets.{subset_at}
use Rattle.cover_isop.specs.Isops.{AreAnswered, Does, IsCallIn, MorrealeAnswers, bounds_at, cover_in, high_at, low_at, order_in}
use Rattle.cover_isop.specs.IsopLasts.{HasBounds-grown, bounds-grown, cover-in-grown}
use Rattle.cover_isop.proofs.CallSteps.{answer-is, changed-of, changed-work, family-work}
use Rattle.cover_isop.proofs.DoesLaws.{value_does}
use Rattle.cover_isop.proofs.IsopSteps.{high-is-call, low-is-call, stepped}
use Rattle.cover_isop.proofs.LevelOrders.{by_level-once, by_level-within}

module _ (l u : Edge) (w : View) (t : Task) (x : ℕ) (low high both : Edge) (i : AreAnswered true l u w t x low high both) where
  -- the elements of the variable
  pub Literal-is : (e : ℕ) → e < 2 → IsVariable Zdd w (first_element + 2 * x + e)
  Literal-is e few = let b = i.splits.top.in_range.1 in let n = i.due.root.literals in (omega arith, omega (arith, b, n, few))

  own_literal : (e : ℕ) → element_of (first_element + 2 * x + e) ≡ 2 * x + e
  own_literal e = omega arith

  changed : (b : Interval) → ℕ → ℕ → Bool
  changed b e = change (cover_in w b) e

  changed-simple : (b : Interval) (e : ℕ) → IsCallIn w (bounds_at w l u) b → IsSimpleWork w.vars w.elements (order_in w) (bounds_at w l u) (ZddFamily (change (cover_in w b) e))
  changed-simple b e c = family (change (cover_in w b) e) (changed-of w.vars w.elements (order_in w) (bounds_at w l u) b c e)

  pub Low-changed : {v : View} {O : Type 0} (r : Result Edge Stop)
      → RunsTo (λ e. Denotes Zdd v e (subset_at change (first_element + 2 * x + 1) w low)) O (λ F. F ≡ ZddFamily (subset_at change (first_element + 2 * x + 1) w low)) w v (halts r)
      → Does (λ e. Denotes Zdd v e (change (cover_in w (low_at w t x)) (2 * x + 1))) l u w v r
  Low-changed r run = value_does l u Zdd (change (cover_in w (low_at w t x)) (2 * x + 1)) r i.due.root i.due.root (Grown-refl w)
      (changed-work w.vars w.elements (order_in w) (bounds_at w l u) (low_at w t x) (low-is-call l u w t x i.due i.splits) (2 * x + 1)) (ap₂ change (values_at-is Zdd i.low_is) (own_literal 1)) run

  module _ (v : View) (m : Grown w v) where
    pub High-family : Is Zdd v high
    High-family = Is-grown Zdd m (Is-from Zdd i.high_is)

    pub High-literal : IsVariable Zdd v (first_element + 2 * x)
    High-literal = IsVariable-grown Zdd m (first_element + 2 * x) (subst (IsVariable Zdd w) (omega arith) (Literal-is 0 (omega arith)))

    pub High-changed : {y : View} {O : Type 0} (r : Result Edge Stop)
        → RunsTo (λ e. Denotes Zdd y e (subset_at change (first_element + 2 * x) v high)) O (λ F. F ≡ ZddFamily (subset_at change (first_element + 2 * x) v high)) v y (halts r)
        → Does (λ e. Denotes Zdd y e (change (cover_in w (high_at w t x)) (2 * x))) l u v y r
    High-changed r run = value_does l u Zdd (change (cover_in w (high_at w t x)) (2 * x)) r i.due.root (HasBounds-grown m i.due.root) m
        (changed-work w.vars w.elements (order_in w) (bounds_at w l u) (high_at w t x) (high-is-call l u w t x i.due i.splits) (2 * x)) (ap₂ change (values_at-is Zdd (Denotes-grown Zdd m i.high_is)) (omega arith)) run

    -- the union of both
    module _ (a b : Edge) (a_is : Denotes Zdd v a (change (cover_in w (low_at w t x)) (2 * x + 1))) (b_is : Denotes Zdd v b (change (cover_in w (high_at w t x)) (2 * x))) where
      pub Halves-two : AreTwo Zdd v a b
      Halves-two = record { first = Is-from Zdd a_is; second = Is-from Zdd b_is }

      pub Halves-does : {y : View} {O : Type 0} (r : Result Edge Stop) → RunsTo (λ e. Denotes Zdd y e (union (family_at v a) (family_at v b))) O (λ F. F ≡ ZddFamily (union (family_at v a) (family_at v b))) v y (halts r)
          → Does (λ e. Denotes Zdd y e (union (change (cover_in w (low_at w t x)) (2 * x + 1)) (change (cover_in w (high_at w t x)) (2 * x)))) l u v y r
      Halves-does r run = value_does l u Zdd (union (change (cover_in w (low_at w t x)) (2 * x + 1)) (change (cover_in w (high_at w t x)) (2 * x))) r i.due.root (HasBounds-grown m i.due.root) m
          (united (change (cover_in w (low_at w t x)) (2 * x + 1)) (change (cover_in w (high_at w t x)) (2 * x)) (changed-simple (low_at w t x) (2 * x + 1) (low-is-call l u w t x i.due i.splits)) (changed-simple (high_at w t x) (2 * x) (high-is-call l u w t x i.due i.splits)))
          (ap₂ union (values_at-is Zdd a_is) (values_at-is Zdd b_is)) run

    -- and of that with the third
    module _ (h : Edge) (h_is : Denotes Zdd v h (union (change (cover_in w (low_at w t x)) (2 * x + 1)) (change (cover_in w (high_at w t x)) (2 * x)))) where
      pub Whole-two : AreTwo Zdd v both h
      Whole-two = record { first = Is-grown Zdd m (Is-from Zdd i.both_is); second = Is-from Zdd h_is }

      pub Whole-does : {y : View} {O : Type 0} (r : Result Edge Stop) → RunsTo (λ e. Denotes Zdd y e (union (family_at v both) (family_at v h))) O (λ F. F ≡ ZddFamily (union (family_at v both) (family_at v h))) v y (halts r)
          → Does (λ e. Denotes Zdd y e (cover_in w (bounds_at w t.f t.g))) l u v y r
      Whole-does r run = value_does l u Zdd (cover_in w (bounds_at w t.f t.g)) r i.due.root (HasBounds-grown m i.due.root) m
          (family-work w.vars w.elements (order_in w) (bounds_at w l u) (bounds_at w t.f t.g) i.due.call)
          (ap₂ union (values_at-is Zdd (Denotes-grown Zdd m i.both_is)) (values_at-is Zdd h_is)
          ∙ sym (answer-is w.vars w.elements (order_in w) w.level (bounds_at w l u) (bounds_at w t.f t.g) x (by_level-once w.vars w.level) (by_level-within w.vars w.level) (stepped l u w t x i.due i.splits))) run

  pub Whole-answer : (v : View) (m : Grown w v) (e : Edge) → Denotes Zdd v e (cover_in w (bounds_at w t.f t.g)) → MorrealeAnswers true v t e
  Whole-answer v m e is = subst (Denotes Zdd v e) (sym (cover-in-grown m (bounds_at w t.f t.g)) ∙ ap (cover_in v) (sym (bounds-grown m i.due.bounds.two))) is
