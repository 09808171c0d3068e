-- The function of a task's cover, from those of its three calls.
use Rattle.std.proofs.Common.{◌≡◌, ℕ, ◌≤◌, Bool, false, ◌||◌, Result, sym, ap, ap₂, ◌∙◌, subst, arith}
use Rattle.edge_bits.specs.declared.edges.Edge.{Edge}
use Rattle.edge_bits.specs.declared.edges.Kind.TheVariants.{Bdd}
use Rattle.function_laws.specs.IrredundantCovers.{cover_value}
use Rattle.function_laws.specs.Kinds.{BddFunction}
use Rattle.function_laws.specs.MorrealeCalls.{Interval, IsSimpleWork, disjoined, function}
use Rattle.function_laws.specs.Values.{choice, disjunction}
use Rattle.function_laws.proofs.DistinctLemmas.{In}
use Rattle.function_laws.proofs.ValueLemmas.{IsFree-place}
use Rattle.node_store.specs.Operations.{RunsTo, halts}
use Rattle.node_store.specs.Views.{View, AreTwo, CanMake, Denotes, Grown, IsBelow, IsVariable, bdd_at, node_values}
use Rattle.node_store.specs.ViewLaws.{Denotes-grown, Grown-refl, Is-from, IsBelow-grown, IsVariable-grown, values_at-is}
use Rattle.node_store.specs.declared.grow.Stop.{Stop}
use Rattle.node_store.specs.declared.operator.Task.{Task}
use Rattle.cover_isop.specs.Isops.{AreAnswered, Does, IsCallIn, MorrealeAnswers, both_at, bounds_at, cover_in, function_in, high_at, isop_work, low_at, order_in}
use Rattle.cover_isop.specs.IsopLasts.{HasBounds-grown, bounds-grown, function-in-grown}
use Rattle.cover_isop.proofs.CallSteps.{Stepped, answer-is, function-of, function-work, high-function-lacks, high-literals, low-function-lacks, low-literals, third-function-lacks}
use Rattle.cover_isop.proofs.CoverJoins.{cover-made}
use Rattle.cover_isop.proofs.DoesLaws.{value_does}
use Rattle.cover_isop.proofs.IsopSteps.{both-is-call, high-is-call, low-is-call, stepped}
use Rattle.cover_isop.proofs.LevelOrders.{by_level-once, by_level-within}

module _ (l u : Edge) (w : View) (t : Task) (x : ℕ) (low high both : Edge) (i : AreAnswered false l u w t x low high both) where
  st : Stepped w.vars w.elements (order_in w) w.level (bounds_at w l u) (bounds_at w t.f t.g) x
  st = stepped l u w t x i.due i.splits

  abbrev own : Interval → ℕ → Bool
  own b = function_in w b

  simple-of : (b : Interval) → IsCallIn w (bounds_at w l u) b → IsSimpleWork w.vars w.elements (order_in w) (bounds_at w l u) (BddFunction (own b))
  simple-of b c = function (own b) (function-of w.vars w.elements (order_in w) (bounds_at w l u) b c)

  pub Hi-work : isop_work l u w (BddFunction (disjunction (own (high_at w t x)) (own (both_at w t x))))
  Hi-work = disjoined (own (high_at w t x)) (own (both_at w t x)) (simple-of (high_at w t x) (high-is-call l u w t x i.due i.splits)) (simple-of (both_at w t x) (both-is-call l u w t x i.due i.splits))

  pub Lo-work : isop_work l u w (BddFunction (disjunction (own (low_at w t x)) (own (both_at w t x))))
  Lo-work = disjoined (own (low_at w t x)) (own (both_at w t x)) (simple-of (low_at w t x) (low-is-call l u w t x i.due i.splits)) (simple-of (both_at w t x) (both-is-call l u w t x i.due i.splits))

  pub Made-work : isop_work l u w (BddFunction (own (bounds_at w t.f t.g)))
  Made-work = function-work w.vars w.elements (order_in w) (bounds_at w l u) (bounds_at w t.f t.g) i.due.call

  pub Hi-two : AreTwo Bdd w high both
  Hi-two = record { first = Is-from Bdd i.high_is; second = Is-from Bdd i.both_is }

  pub Hi-does : {v : View} {O : Type 0} (r : Result Edge Stop) → RunsTo (λ e. Denotes Bdd v e (disjunction (bdd_at w high) (bdd_at w both))) O (λ F. F ≡ BddFunction (disjunction (bdd_at w high) (bdd_at w both))) w v (halts r)
      → Does (λ e. Denotes Bdd v e (disjunction (own (high_at w t x)) (own (both_at w t x)))) l u w v r
  Hi-does r run = value_does l u Bdd (disjunction (own (high_at w t x)) (own (both_at w t x))) r i.due.root i.due.root (Grown-refl w) Hi-work (ap₂ disjunction (values_at-is Bdd i.high_is) (values_at-is Bdd i.both_is)) run

  module _ (v : View) (m : Grown w v) where
    pub Lo-two : AreTwo Bdd v low both
    Lo-two = record { first = Is-from Bdd (Denotes-grown Bdd m i.low_is); second = Is-from Bdd (Denotes-grown Bdd m i.both_is) }

    pub Lo-does : {y : View} {O : Type 0} (r : Result Edge Stop) → RunsTo (λ e. Denotes Bdd y e (disjunction (bdd_at v low) (bdd_at v both))) O (λ F. F ≡ BddFunction (disjunction (bdd_at v low) (bdd_at v both))) v y (halts r)
        → Does (λ e. Denotes Bdd y e (disjunction (own (low_at w t x)) (own (both_at w t x)))) l u v y r
    Lo-does r run = value_does l u Bdd (disjunction (own (low_at w t x)) (own (both_at w t x))) r i.due.root (HasBounds-grown m i.due.root) m Lo-work
        (ap₂ disjunction (values_at-is Bdd (Denotes-grown Bdd m i.low_is)) (values_at-is Bdd (Denotes-grown Bdd m i.both_is))) run

  -- free of what stands at the variable's level or above
  apart : (v : ℕ) → IsVariable Bdd w v → w.level v ≤ w.level x → In v st.below → ⊥
  apart v vn le j = let q = st.under v j in q.1 (i.splits.alone v vn (omega (arith, le, q.0)))

  low-below : IsBelow Bdd w x (own (low_at w t x))
  low-below v vn le = low-function-lacks w.vars w.elements (order_in w) w.level (bounds_at w l u) (bounds_at w t.f t.g) x (by_level-once w.vars w.level) (by_level-within w.vars w.level) st v (apart v vn le)

  high-below : IsBelow Bdd w x (own (high_at w t x))
  high-below v vn le = high-function-lacks w.vars w.elements (order_in w) w.level (bounds_at w l u) (bounds_at w t.f t.g) x (by_level-once w.vars w.level) (by_level-within w.vars w.level) st v (apart v vn le)

  both-below : IsBelow Bdd w x (own (both_at w t x))
  both-below v vn le = third-function-lacks w.vars w.elements (order_in w) w.level (bounds_at w l u) (bounds_at w t.f t.g) x (by_level-once w.vars w.level) (by_level-within w.vars w.level) st v (apart v vn le)

  or-below : (f g : ℕ → Bool) → IsBelow Bdd w x f → IsBelow Bdd w x g → IsBelow Bdd w x (disjunction f g)
  or-below f g p q v vn le = IsFree-place (λ y z. y || z) f g v (p v vn le) (q v vn le)

  module _ (v : View) (m : Grown w v) (hi lo : Edge) (hi_is : Denotes Bdd v hi (disjunction (own (high_at w t x)) (own (both_at w t x)))) (lo_is : Denotes Bdd v lo (disjunction (own (low_at w t x)) (own (both_at w t x)))) where
    pub Made-can : CanMake Bdd v x hi lo
    Made-can = record {
      in_range = IsVariable-grown Bdd m x i.splits.top.in_range;
      hi_is = Is-from Bdd hi_is;
      lo_is = Is-from Bdd lo_is;
      hi_below = subst (IsBelow Bdd v x) (sym (values_at-is Bdd hi_is)) (IsBelow-grown Bdd x (disjunction (own (high_at w t x)) (own (both_at w t x))) m (or-below (own (high_at w t x)) (own (both_at w t x)) high-below both-below));
      lo_below = subst (IsBelow Bdd v x) (sym (values_at-is Bdd lo_is)) (IsBelow-grown Bdd x (disjunction (own (low_at w t x)) (own (both_at w t x))) m (or-below (own (low_at w t x)) (own (both_at w t x)) low-below both-below));
    }

    pub Made-is : node_values Bdd v x hi lo ≡ own (bounds_at w t.f t.g)
    Made-is =
        ap₂ (choice x) (values_at-is Bdd hi_is) (values_at-is Bdd lo_is)
        ∙ sym (cover-made w.vars w.elements x (cover_in w (low_at w t x)) (cover_in w (high_at w t x)) (cover_in w (both_at w t x)) i.due.root.literals i.splits.top.in_range.1
        (low-literals w.vars w.elements (order_in w) w.level (bounds_at w l u) (bounds_at w t.f t.g) x (by_level-once w.vars w.level) (by_level-within w.vars w.level) st)
        (high-literals w.vars w.elements (order_in w) w.level (bounds_at w l u) (bounds_at w t.f t.g) x (by_level-once w.vars w.level) (by_level-within w.vars w.level) st))
        ∙ ap (cover_value w.vars w.elements) (sym (answer-is w.vars w.elements (order_in w) w.level (bounds_at w l u) (bounds_at w t.f t.g) x (by_level-once w.vars w.level) (by_level-within w.vars w.level) st))

  pub Made-answer : (v : View) (m : Grown w v) (e : Edge) → Denotes Bdd v e (own (bounds_at w t.f t.g)) → MorrealeAnswers false v t e
  Made-answer v m e is = subst (Denotes Bdd v e) (sym (function-in-grown m (bounds_at w t.f t.g)) ∙ ap (function_in v) (sym (bounds-grown m i.due.bounds.two))) is
