-- Sums over a variable, step by step.
use Rattle.std.proofs.Common.{◌≡◌, ℕ, ◌<◌, Bool, true, false, cond, ℤ, Option, Some, ◌⊎◌, inl, inr, refl, ap, sym, ◌∙◌, subst, arith}
use Rattle.std.specs.Prelude.{◌+ℤ◌}
use Rattle.edge_bits.specs.declared.edges.Edge.{Edge}
use Rattle.edge_bits.specs.declared.edges.Kind.{Kind}
use Rattle.edge_bits.specs.declared.edges.Kind.TheVariants.{Bdd, Add, Zdd}
use Rattle.function_laws.specs.Numbers.{plus, sum_over}
use Rattle.function_laws.specs.Values.{IsFree, choice, cofactor, projection}
use Rattle.function_laws.proofs.ValueLemmas.{everywhere, cofactor-choice_true, cofactor-choice_false}
use Rattle.function_laws.specs.Kinds.{Denoted, AddFunction, ValueOf, function_of, opposite, values_of}
use Rattle.node_store.specs.Memo.{NumberHolds, MemoHolds, SumHolds}
use Rattle.node_store.specs.declared.numbers.TheConstants as numbers
use Rattle.node_store.specs.Two.{Overflows, place_at, value_of_two}
use Rattle.node_store.specs.Views.{View, CanMake, Denotes, Grown, Is, IsInner, IsKey, IsLeaf, IsVariable, add_at, node_values}
use Rattle.node_store.specs.ViewLaws.{Grown-trans, Is-from, Is-grown, IsBelow-inner, IsVariable-grown, Splits-grown, level-grown, top-grown, values_at-grown, values_at-is}
use Rattle.node_store.specs.Work.{IsPart, IsWork, Adds, Moves}
use Rattle.node_store.specs.WorkLaws.{IsPart-both, IsPart-grown, IsPart-half, IsWork-due, Moves-both, Moves-made}
use Rattle.node_store.specs.declared.operator.Task.{Task}
use Rattle.node_store.specs.declared.operator.Frame.{Frame}
use Rattle.node_store.specs.declared.operator.Wait.TheVariants.{First}
use Rattle.node_store.proofs.Literals.{same_variable}
use Rattle.node_store.proofs.TwoParts.{Lacks-leaf}
use Rattle.add_ops.specs.Conversions.{one_depth}
use Rattle.add_ops.specs.Sums.{summed_at, HasSum, value_of_sum, SumDue, SumAnswers, SumOverflows, SumSplits, SumWaits, AreHalves, SplitsAbove}
use Rattle.add_ops.specs.SumLasts.{summed_at-grown, HasSum-grown, value_of_sum-stays, SumDue-stays, Sum-is, Sum-hi_below, Sum-lo_below}

-- the sum of a function that doesn't depend on the variable, and of the choice by it of two that don't
sum-free : (f : ℕ → ℤ) (v : ℕ) → IsFree f v → plus f f ≡ sum_over f v
sum-free f v free = everywhere (plus f f) (sum_over f v) (λ k. ap (λ x. x +ℤ f k) (sym (free k true)) ∙ ap (λ x. cofactor f v true k +ℤ x) (sym (free k false)))

sum-choice_same : (f g : ℕ → ℤ) (v : ℕ) → IsFree f v → IsFree g v → plus f g ≡ sum_over (choice v f g) v
sum-choice_same f g v first second = everywhere (plus f g) (sum_over (choice v f g) v) (λ k.
    ap (λ x. x +ℤ g k) (sym (ap (λ (h : ℕ → ℤ). h k) (cofactor-choice_true f g v) ∙ first k true))
    ∙ ap (λ x. cofactor (choice v f g) v true k +ℤ x) (sym (ap (λ (h : ℕ → ℤ). h k) (cofactor-choice_false f g v) ∙ second k false)))

-- what opening the function tells
halves_free : (w : View) (f : Edge) (x : ℕ) → Is Add w f → IsFree (add_at w f) x → AreHalves w f x f f
halves_free w f x d free = record { two = record { first = d; second = d }; sum = sum-free (add_at w f) x free }

pub halves_leaf : (v w : View) (f : Edge) (x : ℕ) (z : ℤ) → Grown v w → Is Add v f → IsLeaf Add w f (add_at v f) z → AreHalves w f x f f
halves_leaf v w f x z m d i = halves_free w f x (Is-grown Add m d) (subst (λ g. IsFree g x) (sym (values_at-grown Add m d)) (Lacks-leaf Add f (add_at v f) z i.leaf x))

pub halves_own : (v w : View) (f : Edge) (x top : ℕ) (hi lo : Edge) → Grown v w → Is Add v f → top ≡ x → IsInner Add w f (add_at v f) top hi lo → AreHalves w f x hi lo
halves_own v w f x top hi lo m d same i =
    let j = subst (λ y. IsInner Add w f (add_at v f) y hi lo) same i in
    record {
      two = record { first = j.splits.hi_is; second = j.splits.lo_is };
      sum = sum-choice_same (add_at w hi) (add_at w lo) x (j.splits.hi_below x j.in_range (omega arith)) (j.splits.lo_below x j.in_range (omega arith))
          ∙ ap (λ g. sum_over g x) (sym (values_at-grown Add m d ∙ j.splits.is));
    }

-- the variable stands above the top
pub halves_below : (v w y : View) (f : Edge) (x top : ℕ) (hi lo : Edge) → Grown v w → Grown w y → Is Add v f → IsVariable Add v x → IsInner Add w f (add_at v f) top hi lo → w.level x < w.level top → AreHalves y f x f f
halves_below v w y f x top hi lo m n d vn i lt =
    let all = Grown-trans m n in
    halves_free y f x (Is-grown Add all d) (subst (λ g. IsFree g x) (sym (values_at-grown Add all d)) (IsBelow-inner Add x i lt x (IsVariable-grown Add m x vn) (omega arith)))

pub SplitsAbove-from : (v w y : View) (f : Edge) (x top : ℕ) (hi lo : Edge) → Grown v w → Grown w y → Is Add v f → IsInner Add w f (add_at v f) top hi lo → (top ≡ x → ⊥) → SplitsAbove y f x top hi lo
SplitsAbove-from v w y f x top hi lo m n d i ne =
    let tf = top-grown Add n (Is-grown Add m d) in let th = top-grown Add n i.splits.hi_is in let tl = top-grown Add n i.splits.lo_is in
    let l = level-grown n top in let vars = n.vars in
    let here = i.here in let within = i.within in let a = i.hi_top in let b = i.lo_top in
    record {
      in_range = IsVariable-grown Add n top i.in_range;
      apart = ne;
      splits = rw (values_at-grown Add (Grown-trans m n) d) (Splits-grown Add n i.splits);
      here = omega arith;
      within = omega arith;
      hi_top = omega arith;
      lo_top = omega arith;
    }

SplitsAbove-grown : {v w : View} (f : Edge) (y x : ℕ) (hi lo : Edge) → Grown v w → Is Add v f → SplitsAbove v f y x hi lo → SplitsAbove w f y x hi lo
SplitsAbove-grown f y x hi lo n d i =
    let tf = top-grown Add n d in let th = top-grown Add n i.splits.hi_is in let tl = top-grown Add n i.splits.lo_is in
    let l = level-grown n x in let vars = n.vars in
    let here = i.here in let within = i.within in let a = i.hi_top in let b = i.lo_top in
    record {
      in_range = IsVariable-grown Add n x i.in_range;
      apart = i.apart;
      splits = rw (values_at-grown Add n d) (Splits-grown Add n i.splits);
      here = omega arith;
      within = omega arith;
      hi_top = omega arith;
      lo_top = omega arith;
    }

-- the key
pub sum_key : (w : View) (f p : Edge) (v : ℕ) → Denotes Bdd w p (projection v) → Is Add w f → IsKey w (record { op = numbers.SUM_OVER; f = f; g = p; h = f })
sum_key w f p v literal d = record { least = omega arith; most = omega arith; f = (Add, d); g = (Bdd, Is-from Bdd literal); h = (Add, d) }

pub sum_memo : (w : View) (f p : Edge) (v : ℕ) (e : Edge) → Denotes Bdd w p (projection v) → Is Add w f → IsVariable Add w v → Denotes Add w e (summed_at w f v) → MemoHolds w (record { op = numbers.SUM_OVER; f = f; g = p; h = f }) e
unfolding NumberHolds
sum_memo w f p v e same d vn a = record { variable = v; in_range = vn; projection = same; f = d; answer = a }

sum_holds : (w : View) (f p e : Edge) → MemoHolds w (record { op = numbers.SUM_OVER; f = f; g = p; h = f }) e → SumHolds w (record { op = numbers.SUM_OVER; f = f; g = p; h = f }) e
unfolding NumberHolds
sum_holds w f p e h = h

pub sum_hit : (w : View) (f p : Edge) (v : ℕ) (e : Edge) → Denotes Bdd w p (projection v) → MemoHolds w (record { op = numbers.SUM_OVER; f = f; g = p; h = f }) e → Denotes Add w e (summed_at w f v)
sum_hit w f p v e same holds =
    let h = sum_holds w f p e holds in
    let variable : h.variable ≡ v = same_variable h.variable v (sym (values_at-is Bdd h.projection) ∙ values_at-is Bdd same) in
    subst (λ x. Denotes Add w e (summed_at w f x)) variable h.answer

-- the two parts
half : (w : View) (f : Edge) (v : ℕ) (p : Edge) (t hi lo : Task) (x : ℕ) (which : Bool) → SumDue f v p w t → SumSplits v w t x hi lo → IsPart Add w (summed_at w f v) (cond which (summed_at w hi.f v) (summed_at w lo.f v))
half w f v p t hi lo x which d s =
    IsPart-half Add w x (summed_at w f v) (summed_at w t.f v) (summed_at w hi.f v) (summed_at w lo.f v) which s.in_range (Sum-is v s) (Sum-hi_below v s) (Sum-lo_below v s) d.part

-- a frame for both parts, from the view where the task was asked to the last one
pub record IsAsked (f : Edge) (v : ℕ) (p : Edge) (w : View) (t : Task) (frame : Frame) (child : Task) : Type 0 where
  pub waits : SumWaits f v p w t frame child
  pub due : SumDue f v p w child
  pub less : one_depth Add w child < one_depth Add w t

pub sum_asked : (f : Edge) (v : ℕ) (p : Edge) (w0 w1 w : View) (t a b : Task) (hi lo : Edge) (x : ℕ) → SumDue f v p w0 t → Grown w0 w1 → Grown w1 w → SplitsAbove w1 t.f v x hi lo → a.f ≡ hi → b.f ≡ lo
    → IsAsked f v p w t (record { task = t; var = x; flip = false; wait = First b }) a
sum_asked f v p w0 w1 w t a b hi lo x due0 m0 m1 above1 sa sb =
    let due = SumDue-stays f v p w0 w t (Grown-trans m0 m1) due0 in
    let above = SplitsAbove-grown t.f v x hi lo m1 (Is-grown Add m0 due0.edge) above1 in
    let splits : SumSplits v w t x a b = record { in_range = above.in_range; apart = above.apart; splits = rw (sa, sb) above.splits } in
    let here = above.here in let within = above.within in let hi_top = above.hi_top in let lo_top = above.lo_top in
    let hi_due : SumDue f v p w a = record { projection = due.projection; permanent = due.permanent; root = due.root; edge = splits.splits.hi_is; part = half w f v p t a b x true due splits } in
    let lo_due : SumDue f v p w b = record { projection = due.projection; permanent = due.permanent; root = due.root; edge = splits.splits.lo_is; part = half w f v p t a b x false due splits } in
    record {
      waits = record {
        task = refl;
        waiting = record {
          due = due;
          leads = record { gives = λ y e late is. is; over = λ y late o. o };
          wait = record { splits = splits; hi_due = hi_due; lo_due = lo_due; lo_less = rw sb (omega arith) };
        };
      };
      due = hi_due;
      less = rw sa (omega arith);
    }

-- the node of both answers
pub Sum-can_make : (v : ℕ) {w : View} {t hi lo : Task} {x : ℕ} {e0 e1 : Edge} → SumSplits v w t x hi lo → SumAnswers v w hi e0 → SumAnswers v w lo e1 → CanMake Add w x e0 e1
Sum-can_make v {w} {t} {hi} {lo} {x} s a0 a1 = record {
  in_range = s.in_range;
  hi_is = Is-from Add a0;
  lo_is = Is-from Add a1;
  hi_below = rw (values_at-is Add a0) (Sum-hi_below v s);
  lo_below = rw (values_at-is Add a1) (Sum-lo_below v s);
}

pub Sum-node : (v : ℕ) {w : View} {t hi lo : Task} {x : ℕ} {e0 e1 : Edge} → SumSplits v w t x hi lo → SumAnswers v w hi e0 → SumAnswers v w lo e1 → node_values Add w x e0 e1 ≡ summed_at w t.f v
Sum-node v s a0 a1 = rw (values_at-is Add a0, values_at-is Add a1) (sym (Sum-is v s))

pub Sum-joined : (v : ℕ) {w y : View} {t hi lo : Task} {x : ℕ} {e0 e1 e : Edge} → Is Add w t.f → SumSplits v w t x hi lo → SumAnswers v w hi e0 → SumAnswers v w lo e1
    → Grown w y → Denotes Add y e (node_values Add w x e0 e1) → SumAnswers v y t e
Sum-joined v d s a0 a1 m is = rw (summed_at-grown v m d, sym (Sum-node v s a0 a1)) is

-- what is part of a part's work is part of the whole's
pub IsWork-part : (w : View) (f g : ℕ → ℤ) (o : Option Denoted) → IsPart Add w f g → IsWork w (λ F. F ≡ AddFunction g) o → IsWork w (λ F. F ≡ AddFunction f) o
IsWork-part w f g o part i = by_kind i.kind i.root i.part i.asked i.is_part i.is
  where
    by_kind : (k : Kind) (root p : ℕ → ValueOf k) → function_of k root ≡ AddFunction g → IsPart k w root p
        → (o ≡ Some (function_of k p)) ⊎ (o ≡ Some (opposite (function_of k p))) → IsWork w (λ F. F ≡ AddFunction f) o
    by_kind Add root p asked q is = record {
      kind = Add;
      root = f;
      part = p;
      asked = refl;
      is_part = IsPart-both Add w f root p (subst (λ x. IsPart Add w f x) (sym (ap (λ F. values_of Add (Some F)) asked)) part) q;
      is = is;
    }
    by_kind Bdd root p asked q is = cc
    by_kind Zdd root p asked q is = cc

module _ (f : Edge) (v : ℕ) (p : Edge) where
  pub Sum-both : (u w y : View) → Moves (λ w. HasSum w f v) (value_of_sum f v) u w → Moves (λ w. HasSum w f v) (value_of_sum f v) w y → Moves (λ w. HasSum w f v) (value_of_sum f v) u y
  Sum-both = Moves-both (λ w. HasSum w f v) (value_of_sum f v) (λ v w m d. HasSum-grown m d) (value_of_sum-stays f v)

  -- a task's value was stored, or due
  pub Sum-moved : (u w : View) (t : Task) (e : Edge) → SumDue f v p u t → Grown u w → ((s : ℕ) → w.made s ≡ true → (u.made s ≡ true) ⊎ (e.index ≡ s))
      → Denotes Add w e (summed_at u t.f v) → Moves (λ w. HasSum w f v) (value_of_sum f v) u w
  Sum-moved u w t e d m made is = Moves-made Add (λ w. HasSum w f v) (value_of_sum f v) u w e (summed_at u f v) (summed_at u t.f v) m made
      (λ root. ap AddFunction (sym (summed_at-grown v m root.edge))) (IsPart-grown Add m (summed_at u f v) (summed_at u t.f v) d.part) is

  pub Sum-refused : (u w : View) (t : Task) → SumDue f v p u t → Grown u w → w.due ≡ Some (AddFunction (summed_at u t.f v)) → IsWork w (value_of_sum f v w) w.due
  Sum-refused u w t d m is = IsWork-due Add w (value_of_sum f v w) (summed_at u f v) (summed_at u t.f v)
      (ap AddFunction (sym (summed_at-grown v m d.root.edge))) (IsPart-grown Add m (summed_at u f v) (summed_at u t.f v) d.part) is

  -- the halves of a task were added
  module _ (u w : View) (t : Task) (hi lo : Edge) (d : SumDue f v p u t) (h : AreHalves u t.f v hi lo) (m : Grown u w) where
    whole_part : IsPart Add w (summed_at w f v) (place_at Add (λ a b. a +ℤ b) u hi lo)
    whole_part = rw (summed_at-grown v m d.root.edge) (subst (λ g. IsPart Add w (summed_at u f v) g) (sym h.sum) (IsPart-grown Add m (summed_at u f v) (summed_at u t.f v) d.part))

    pub halves_due : (o : Option Denoted) → IsWork w (value_of_two Add (λ a b. a +ℤ b) hi lo u) o → IsWork w (value_of_sum f v w) o
    halves_due o i = IsWork-part w (summed_at w f v) (place_at Add (λ a b. a +ℤ b) u hi lo) o whole_part i

    pub halves_moved : Adds (value_of_two Add (λ a b. a +ℤ b) hi lo u) u w → Moves (λ w. HasSum w f v) (value_of_sum f v) u w
    halves_moved adds = record { grown = m; work = λ root s here. elim (adds s here) [ inl old ↦ inl old | inr i ↦ inr (halves_due (w.content s) i) ] }

    pub halves_answer : (e : Edge) → Denotes Add w e (place_at Add (λ a b. a +ℤ b) u hi lo) → SumAnswers v w t e
    halves_answer e a = rw (summed_at-grown v m d.edge) (subst (λ g. Denotes Add w e g) h.sum a)

    pub halves_overflow : Overflows Add (place_at Add (λ a b. a +ℤ b) u hi lo) → SumOverflows v w t
    halves_overflow o = subst (λ g. Overflows Add g) (h.sum ∙ sym (summed_at-grown v m d.edge)) o
