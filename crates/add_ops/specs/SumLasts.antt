-- What is true of tasks of a sum over a variable stays true while a store grows, and an overflow of a part is one of the whole.
use Rattle.std.proofs.Common.{◌≡◌, ◌≢◌, ℕ, eqb, Bool, true, false, cond, refl, subst, ap, sym, ◌∙◌, arith}
use Rattle.std.specs.Prelude.{◌+ℤ◌, ℤ}
use Rattle.edge_bits.specs.declared.edges.Edge.{Edge}
use Rattle.edge_bits.specs.declared.edges.Kind.TheVariants.{Add, Bdd}
use Rattle.function_laws.specs.Numbers.{sum_over}
use Rattle.function_laws.specs.Values.{IsFree, choice, cofactor}
use Rattle.function_laws.proofs.ValueLemmas.{IsFree-cofactor, IsFree-cofactor_other, IsFree-place, cofactor-choice_other, place_two}
use Rattle.function_laws.specs.Kinds.{Denoted, AddFunction}
use Rattle.node_store.specs.Two.{Overflows}
use Rattle.node_store.specs.TwoLaws.{Overflows-joined}
use Rattle.node_store.specs.Views.{View, Denotes, Grown, Is, IsBelow, add_at}
use Rattle.node_store.specs.ViewLaws.{Denotes-grown, Denotes-lasts, Is-grown, IsVariable-grown, Permanent-grown, Splits-grown, values_at-grown}
use Rattle.node_store.specs.Waiting.{Waiting-overflows, Waiting-stays}
use Rattle.node_store.specs.WorkLaws.{IsPart-grown}
use Rattle.node_store.specs.declared.operator.Frame.{Frame}
use Rattle.node_store.specs.declared.operator.Task.{Task}
use Rattle.add_ops.specs.Conversions.{one_depth}
use Rattle.add_ops.specs.ConversionLasts.{one_depth-stays}
use Rattle.add_ops.specs.Sums.{summed_at, HasSum, value_of_sum, SumDue, SumAnswers, SumOverflows, SumSplits, SumWaits}

pub summed_at-grown : {v w : View} {f : Edge} (x : ℕ) → Grown v w → Is Add v f → summed_at w f x ≡ summed_at v f x
summed_at-grown x m d = ap (λ g. sum_over g x) (values_at-grown Add m d)

pub HasSum-grown : {v w : View} {f : Edge} {x : ℕ} → Grown v w → HasSum v f x → HasSum w f x
HasSum-grown {v} {w} {f} {x} m d = record { edge = Is-grown Add m d.edge; in_range = IsVariable-grown Add m x d.in_range }

pub value_of_sum-stays : (f : Edge) (x : ℕ) (v w : View) (F : Denoted) → Grown v w → HasSum v f x → value_of_sum f x v F → value_of_sum f x w F
value_of_sum-stays f x v w F m d is = is ∙ ap AddFunction (sym (summed_at-grown x m d.edge))

-- a call's answer, and what is told of it, by the operand at its start
pub summed_at-lasts : (f : Edge) (x : ℕ) (u v w y : View) (e : Edge) → Grown u v → Grown w y → HasSum u f x → Denotes Add w e (summed_at v f x) → Denotes Add y e (summed_at u f x)
summed_at-lasts f x u v w y e before after d a = Denotes-lasts Add after (summed_at-grown x before d.edge) a

pub sum-overflows : (f : Edge) (x : ℕ) {v w : View} → Grown v w → HasSum v f x → Overflows Add (summed_at w f x) → Overflows Add (summed_at v f x)
sum-overflows f x m d over = subst (Overflows Add) (summed_at-grown x m d.edge) over

pub value_of_sum-back : (f : Edge) (x : ℕ) (v w : View) (F : Denoted) → Grown v w → HasSum v f x → value_of_sum f x w F → value_of_sum f x v F
value_of_sum-back f x v w F m d is = is ∙ ap AddFunction (summed_at-grown x m d.edge)

pub SumDue-stays : (f : Edge) (x : ℕ) (p : Edge) (v w : View) (t : Task) → Grown v w → SumDue f x p v t → SumDue f x p w t
SumDue-stays f x p v w t m d = record {
  projection = Denotes-grown Bdd m d.projection;
  permanent = Permanent-grown m d.permanent;
  root = HasSum-grown m d.root;
  edge = Is-grown Add m d.edge;
  part = rw (summed_at-grown x m d.root.edge, summed_at-grown x m d.edge) (IsPart-grown Add m (summed_at v f x) (summed_at v t.f x) d.part);
}

pub SumAnswers-stay : (x : ℕ) (v w : View) (t : Task) (e : Edge) → Grown v w → Is Add v t.f → SumAnswers x v t e → SumAnswers x w t e
SumAnswers-stay x v w t e m d a = rw (summed_at-grown x m d) (Denotes-grown Add m a)

pub SumSplits-stay : (y : ℕ) (v w : View) (t : Task) (x : ℕ) (a b : Task) → Grown v w → Is Add v t.f → SumSplits y v t x a b → SumSplits y w t x a b
SumSplits-stay y v w t x a b m d s = record {
  in_range = IsVariable-grown Add m x s.in_range;
  apart = s.apart;
  splits = rw (values_at-grown Add m d) (Splits-grown Add m s.splits);
}

pub SumWaits-stay : (f : Edge) (x : ℕ) (p : Edge) (v w : View) (t : Task) (frame : Frame) (u : Task) → Grown v w → SumDue f x p v t → SumWaits f x p v t frame u → SumWaits f x p w t frame u
SumWaits-stay f x p v w t frame u m d q = record {
  task = q.task;
  waiting = Waiting-stays (SumDue f x p) (SumAnswers x) (SumOverflows x) (SumSplits x) (one_depth Add) (SumDue-stays f x p) (λ v w t e m d. SumAnswers-stay x v w t e m d.edge)
      (λ v w t y a b m d. SumSplits-stay x v w t y a b m d.edge) (λ v w t m d. one_depth-stays Add v w t m d.edge) v w t frame u m d q.waiting;
}

-- a sum over another variable goes into both parts
pub sum-choice_other : (f g : ℕ → ℤ) (u v : ℕ) → u ≢ v → sum_over (choice u f g) v ≡ choice u (sum_over f v) (sum_over g v)
sum-choice_other f g u v apart =
    ap (λ h. (λ k. h k +ℤ cofactor (choice u f g) v false k)) (cofactor-choice_other f g u v true apart)
    ∙ ap (λ h. (λ k. choice u (cofactor f v true) (cofactor g v true) k +ℤ h k)) (cofactor-choice_other f g u v false apart)
    ∙ place_two (λ a b. a +ℤ b) (cofactor f v true) (cofactor g v true) (cofactor f v false) (cofactor g v false) u

IsFree-cofactor_any : (f : ℕ → ℤ) (u v : ℕ) (b : Bool) → IsFree f u → IsFree (cofactor f v b) u
IsFree-cofactor_any f u v b free = by_test (eqb u v) refl
  where
    by_test : (c : Bool) → eqb u v ≡ c → IsFree (cofactor f v b) u
    by_test true t = let same : v ≡ u = grind (arith, t) in subst (λ x. IsFree (cofactor f v b) x) same (IsFree-cofactor f v b)
    by_test false t = let apart : u ≢ v = grind (arith, t) in IsFree-cofactor_other f u v b apart free

pub IsFree-sum : (f : ℕ → ℤ) (u v : ℕ) → IsFree f u → IsFree (sum_over f v) u
IsFree-sum f u v free = IsFree-place (λ a b. a +ℤ b) (cofactor f v true) (cofactor f v false) u (IsFree-cofactor_any f u v true free) (IsFree-cofactor_any f u v false free)

pub IsBelow-sum : (w : View) (x : ℕ) (f : ℕ → ℤ) (v : ℕ) → IsBelow Add w x f → IsBelow Add w x (sum_over f v)
IsBelow-sum w x f v below u un le = IsFree-sum f u v (below u un le)

pub Sum-is : {w : View} {t hi lo : Task} {x : ℕ} (v : ℕ) → SumSplits v w t x hi lo → summed_at w t.f v ≡ choice x (summed_at w hi.f v) (summed_at w lo.f v)
Sum-is {w} {t} {hi} {lo} {x} v s = ap (λ g. sum_over g v) s.splits.is ∙ sum-choice_other (add_at w hi.f) (add_at w lo.f) x v s.apart

pub Sum-hi_below : {w : View} {t hi lo : Task} {x : ℕ} (v : ℕ) → SumSplits v w t x hi lo → IsBelow Add w x (summed_at w hi.f v)
Sum-hi_below {w} {t} {hi} {lo} {x} v s = IsBelow-sum w x (add_at w hi.f) v s.splits.hi_below

pub Sum-lo_below : {w : View} {t hi lo : Task} {x : ℕ} (v : ℕ) → SumSplits v w t x hi lo → IsBelow Add w x (summed_at w lo.f v)
Sum-lo_below {w} {t} {hi} {lo} {x} v s = IsBelow-sum w x (add_at w lo.f) v s.splits.lo_below

-- an overflow of a part is one of the whole
Sum-overflows : (v : ℕ) (w : View) (t : Task) (x : ℕ) (a b : Task) (which : Bool) → SumSplits v w t x a b → SumOverflows v w (cond which a b) → SumOverflows v w t
Sum-overflows v w t x a b true s o = Overflows-joined Add x (summed_at w t.f v) (summed_at w a.f v) (summed_at w b.f v) (Sum-is v s)
    (Sum-hi_below v s x s.in_range (omega arith)) (Sum-lo_below v s x s.in_range (omega arith)) true o
Sum-overflows v w t x a b false s o = Overflows-joined Add x (summed_at w t.f v) (summed_at w a.f v) (summed_at w b.f v) (Sum-is v s)
    (Sum-hi_below v s x s.in_range (omega arith)) (Sum-lo_below v s x s.in_range (omega arith)) false o

pub SumWaits-overflows : (f : Edge) (x : ℕ) (p : Edge) (w : View) (t : Task) (frame : Frame) (u : Task) → SumWaits f x p w t frame u → SumOverflows x w u → SumOverflows x w t
SumWaits-overflows f x p w t frame u q = Waiting-overflows (SumDue f x p) (SumAnswers x) (SumOverflows x) (SumSplits x) (one_depth Add)
    (λ w t y a b d. Sum-overflows x w t y a b true) (λ w t y a b d. Sum-overflows x w t y a b false) w t frame u q.waiting
