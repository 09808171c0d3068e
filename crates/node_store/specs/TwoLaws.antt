-- What is true of tasks of two functions, computed place by place, and stays true while a store grows.
use Rattle.std.proofs.Common.{◌≡◌, ℕ, Bool, true, false, cond, ℤ, refl, ap, sym, ◌∙◌, subst, arith}
use Rattle.edge_bits.specs.declared.edges.Edge.{Edge}
use Rattle.edge_bits.specs.declared.edges.Kind.{Kind}
use Rattle.edge_bits.specs.declared.edges.Kind.TheVariants.{Bdd, Add, Zdd}
use Rattle.edge_bits.specs.Assignments.{set_bit}
use Rattle.edge_bits.proofs.AssignmentLemmas.{bit-set_same}
use Rattle.function_laws.specs.Numbers.{is_value}
use Rattle.function_laws.specs.Values.{IsFree, choice}
use Rattle.function_laws.specs.Kinds.{Denoted, ValueOf, function_of, joined_at, Lacks, KeepsAbsent}
use Rattle.node_store.specs.KindLaws.{joined-place}
use Rattle.node_store.specs.Views.{View, values_at, Denotes, IsBelow, Grown, AreTwo}
use Rattle.node_store.specs.ViewLaws.{Permanent-grown, Denotes-grown, Denotes-lasts, Is-grown, values_at-grown, Splits-grown, top-grown, levels-grown, IsVariable-grown, IsBelow-place}
use Rattle.node_store.specs.WorkLaws.{IsPart-grown, IsPart-half}
use Rattle.node_store.specs.Two.{place_at, TwoAnswers, TwoSplits, two_depth, TwoDue, value_of_two, Overflows}
use Rattle.node_store.specs.declared.operator.Task.{Task}

-- lasting
pub AreTwo-grown : (k : Kind) {v w : View} {f g : Edge} → Grown v w → AreTwo k v f g → AreTwo k w f g
AreTwo-grown k m d = record { first = Is-grown k m d.first; second = Is-grown k m d.second }

pub place_at-grown : (k : Kind) (op : ValueOf k → ValueOf k → ValueOf k) {v w : View} {f g : Edge} → Grown v w → AreTwo k v f g → place_at k op w f g ≡ place_at k op v f g
place_at-grown k op m d = rw (values_at-grown k m d.first, values_at-grown k m d.second) refl

pub TwoDue-stays : (k : Kind) (op : ValueOf k → ValueOf k → ValueOf k) (f g : Edge) (v w : View) (t : Task) → Grown v w → TwoDue k op f g v t → TwoDue k op f g w t
TwoDue-stays k op f g v w t m d = record {
  permanent = Permanent-grown m d.permanent;
  roots = AreTwo-grown k m d.roots;
  two = AreTwo-grown k m d.two;
  part = rw (place_at-grown k op m d.roots, place_at-grown k op m d.two) (IsPart-grown k m (place_at k op v f g) (place_at k op v t.f t.g) d.part);
}

pub TwoAnswers-stay : (k : Kind) (op : ValueOf k → ValueOf k → ValueOf k) (f g : Edge) (v w : View) (t : Task) (e : Edge) → Grown v w → TwoDue k op f g v t → TwoAnswers k op v t e → TwoAnswers k op w t e
TwoAnswers-stay k op f g v w t e m d a = rw (place_at-grown k op m d.two) (Denotes-grown k m a)

pub TwoSplits-stay : (k : Kind) (v w : View) (t : Task) (x : ℕ) (a b : Task) → Grown v w → AreTwo k v t.f t.g → TwoSplits k v t x a b → TwoSplits k w t x a b
TwoSplits-stay k v w t x a b m d s = record {
  in_range = IsVariable-grown k m x s.in_range;
  f = rw (values_at-grown k m d.first) (Splits-grown k m s.f);
  g = rw (values_at-grown k m d.second) (Splits-grown k m s.g);
}

pub two_depth-stays : (k : Kind) (v w : View) (t : Task) → Grown v w → AreTwo k v t.f t.g → two_depth k w t ≡ two_depth k v t
two_depth-stays k v w t m d = rw (levels-grown k m, top-grown k m d.first, top-grown k m d.second) refl

pub value-stays : (k : Kind) (op : ValueOf k → ValueOf k → ValueOf k) (f g : Edge) (v w : View) (F : Denoted) → Grown v w → AreTwo k v f g → value_of_two k op f g v F → value_of_two k op f g w F
value-stays k op f g v w F m d is = is ∙ ap (function_of k) (sym (place_at-grown k op m d))

-- a call's answer, and what is told of it, by the operands at its start
pub place_at-lasts : (k : Kind) (op : ValueOf k → ValueOf k → ValueOf k) (f g : Edge) (u v w x : View) (e : Edge) → Grown u v → Grown w x → AreTwo k u f g
    → Denotes k w e (place_at k op v f g) → Denotes k x e (place_at k op u f g)
place_at-lasts k op f g u v w x e before after d a = Denotes-lasts k after (place_at-grown k op before d) a

pub overflows-back : (k : Kind) (op : ValueOf k → ValueOf k → ValueOf k) {v w : View} {f g : Edge} → Grown v w → AreTwo k v f g → Overflows k (place_at k op w f g) → Overflows k (place_at k op v f g)
overflows-back k op m d over = subst (Overflows k) (place_at-grown k op m d) over

pub value-back : (k : Kind) (op : ValueOf k → ValueOf k → ValueOf k) (f g : Edge) (v w : View) (F : Denoted) → Grown v w → AreTwo k v f g → value_of_two k op f g w F → value_of_two k op f g v F
value-back k op f g v w F m d is = is ∙ ap (function_of k) (place_at-grown k op m d)

-- the two parts of a task
pub Two-is : (k : Kind) (op : ValueOf k → ValueOf k → ValueOf k) {w : View} {t hi lo : Task} {x : ℕ} → TwoSplits k w t x hi lo
    → place_at k op w t.f t.g ≡ joined_at k x (place_at k op w hi.f hi.g) (place_at k op w lo.f lo.g)
Two-is k op {w} {t} {hi} {lo} {x} s = rw (s.f.is, s.g.is) (joined-place k op x (values_at k w hi.f) (values_at k w lo.f) (values_at k w hi.g) (values_at k w lo.g))

pub Two-hi_below : (k : Kind) (op : ValueOf k → ValueOf k → ValueOf k) → KeepsAbsent k op → {w : View} {t hi lo : Task} {x : ℕ} → TwoSplits k w t x hi lo → IsBelow k w x (place_at k op w hi.f hi.g)
Two-hi_below k op keeps {w} {t} {hi} {lo} {x} s = IsBelow-place k op keeps w x (values_at k w hi.f) (values_at k w hi.g) s.f.hi_below s.g.hi_below

pub Two-lo_below : (k : Kind) (op : ValueOf k → ValueOf k → ValueOf k) → KeepsAbsent k op → {w : View} {t hi lo : Task} {x : ℕ} → TwoSplits k w t x hi lo → IsBelow k w x (place_at k op w lo.f lo.g)
Two-lo_below k op keeps {w} {t} {hi} {lo} {x} s = IsBelow-place k op keeps w x (values_at k w lo.f) (values_at k w lo.g) s.f.lo_below s.g.lo_below

pub TwoDue-hi : (k : Kind) (op : ValueOf k → ValueOf k → ValueOf k) → KeepsAbsent k op → (f g : Edge) (w : View) (t hi lo : Task) (x : ℕ) → TwoDue k op f g w t → TwoSplits k w t x hi lo → TwoDue k op f g w hi
TwoDue-hi k op keeps f g w t hi lo x d s = record {
  permanent = d.permanent;
  roots = d.roots;
  two = record { first = s.f.hi_is; second = s.g.hi_is };
  part = IsPart-half k w x (place_at k op w f g) (place_at k op w t.f t.g) (place_at k op w hi.f hi.g) (place_at k op w lo.f lo.g) true s.in_range (Two-is k op s) (Two-hi_below k op keeps s) (Two-lo_below k op keeps s) d.part;
}

pub TwoDue-lo : (k : Kind) (op : ValueOf k → ValueOf k → ValueOf k) → KeepsAbsent k op → (f g : Edge) (w : View) (t hi lo : Task) (x : ℕ) → TwoDue k op f g w t → TwoSplits k w t x hi lo → TwoDue k op f g w lo
TwoDue-lo k op keeps f g w t hi lo x d s = record {
  permanent = d.permanent;
  roots = d.roots;
  two = record { first = s.f.lo_is; second = s.g.lo_is };
  part = IsPart-half k w x (place_at k op w f g) (place_at k op w t.f t.g) (place_at k op w hi.f hi.g) (place_at k op w lo.f lo.g) false s.in_range (Two-is k op s) (Two-hi_below k op keeps s) (Two-lo_below k op keeps s) d.part;
}

-- what is out of range in a part is out of range in the whole
out_of_choice : (v : ℕ) (h l : ℕ → ℤ) → IsFree h v → IsFree l v → (b : Bool) → (x : ℕ) → is_value (cond b h l x) ≡ false → is_value (choice v h l (set_bit x v b)) ≡ false
out_of_choice v h l p q true x out = ap (λ c. is_value (cond c (h (set_bit x v true)) (l (set_bit x v true)))) (bit-set_same x v true) ∙ ap is_value (p x true) ∙ out
out_of_choice v h l p q false x out = ap (λ c. is_value (cond c (h (set_bit x v false)) (l (set_bit x v false)))) (bit-set_same x v false) ∙ ap is_value (q x false) ∙ out

pub Overflows-joined : (k : Kind) (v : ℕ) (f h l : ℕ → ValueOf k) → f ≡ joined_at k v h l → Lacks k h v → Lacks k l v → (b : Bool) → Overflows k (cond b h l) → Overflows k f
Overflows-joined Bdd v f h l is p q b o = o
Overflows-joined Zdd v f h l is p q b o = o
Overflows-joined Add v f h l is p q b o = (set_bit o.0 v b, subst (λ g. is_value (g (set_bit o.0 v b)) ≡ false) (sym is) (out_of_choice v h l p q b o.0 o.1))

pub Two-overflow_hi : (k : Kind) (op : ValueOf k → ValueOf k → ValueOf k) → KeepsAbsent k op → (w : View) (t : Task) (x : ℕ) (a b : Task) → TwoSplits k w t x a b → Overflows k (place_at k op w a.f a.g) → Overflows k (place_at k op w t.f t.g)
Two-overflow_hi k op keeps w t x a b s o = Overflows-joined k x (place_at k op w t.f t.g) (place_at k op w a.f a.g) (place_at k op w b.f b.g) (Two-is k op s)
    (Two-hi_below k op keeps s x s.in_range (omega arith)) (Two-lo_below k op keeps s x s.in_range (omega arith)) true o

pub Two-overflow_lo : (k : Kind) (op : ValueOf k → ValueOf k → ValueOf k) → KeepsAbsent k op → (w : View) (t : Task) (x : ℕ) (a b : Task) → TwoSplits k w t x a b → Overflows k (place_at k op w b.f b.g) → Overflows k (place_at k op w t.f t.g)
Two-overflow_lo k op keeps w t x a b s o = Overflows-joined k x (place_at k op w t.f t.g) (place_at k op w a.f a.g) (place_at k op w b.f b.g) (Two-is k op s)
    (Two-hi_below k op keeps s x s.in_range (omega arith)) (Two-lo_below k op keeps s x s.in_range (omega arith)) false o
