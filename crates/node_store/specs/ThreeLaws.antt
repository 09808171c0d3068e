-- What is true of tasks of if-then-else, and stays true while a store grows.
use Rattle.std.proofs.Common.{◌≡◌, ℕ, inl, inr, refl, ap, sym, ◌∙◌, subst}
use Rattle.edge_bits.specs.declared.edges.Edge.{Edge}
use Rattle.edge_bits.specs.declared.edges.Kind.{Kind}
use Rattle.edge_bits.specs.declared.edges.Kind.TheVariants.{Bdd}
use Rattle.function_laws.specs.Kinds.{Denoted, ValueOf, function_of}
use Rattle.node_store.specs.Two.{Overflows}
use Rattle.node_store.specs.Views.{View, Grown, Denotes}
use Rattle.node_store.specs.ViewLaws.{Permanent-grown, Denotes-grown, Denotes-lasts, Is-grown, values_at-grown, Splits-grown, top-grown, levels-grown, IsVariable-grown}
use Rattle.node_store.specs.WorkLaws.{IsPart-grown}
use Rattle.node_store.specs.Three.{ite_at, AreThree, ThreeAnswers, ThreeSplits, three_depth, ThreeDue, value_of_three, complement_of, IsPartOrComplement}
use Rattle.node_store.specs.declared.operator.Task.{Task}

pub AreThree-grown : (k : Kind) {v w : View} {f g h : Edge} → Grown v w → AreThree k v f g h → AreThree k w f g h
AreThree-grown k m d = record { condition = Is-grown Bdd m d.condition; first = Is-grown k m d.first; second = Is-grown k m d.second }

pub ite_at-grown : (k : Kind) {v w : View} {f g h : Edge} → Grown v w → AreThree k v f g h → ite_at k w f g h ≡ ite_at k v f g h
ite_at-grown k m d = rw (values_at-grown Bdd m d.condition, values_at-grown k m d.first, values_at-grown k m d.second) refl

pub IsPartOrComplement-grown : (k : Kind) {v w : View} (f g : ℕ → ValueOf k) → Grown v w → IsPartOrComplement k v f g → IsPartOrComplement k w f g
IsPartOrComplement-grown k f g m p = elim p [ inl q ↦ inl (IsPart-grown k m f g q) | inr q ↦ inr (IsPart-grown k m (complement_of k f) g q) ]

pub ThreeDue-stays : (k : Kind) (f g h : Edge) (v w : View) (t : Task) → Grown v w → ThreeDue k f g h v t → ThreeDue k f g h w t
ThreeDue-stays k f g h v w t m d = record {
  permanent = Permanent-grown m d.permanent;
  roots = AreThree-grown k m d.roots;
  three = AreThree-grown k m d.three;
  part = rw (ite_at-grown k m d.roots, ite_at-grown k m d.three) (IsPartOrComplement-grown k (ite_at k v f g h) (ite_at k v t.f t.g t.h) m d.part);
}

pub ThreeAnswers-stay : (k : Kind) (v w : View) (t : Task) (e : Edge) → Grown v w → AreThree k v t.f t.g t.h → ThreeAnswers k v t e → ThreeAnswers k w t e
ThreeAnswers-stay k v w t e m d a = rw (ite_at-grown k m d) (Denotes-grown k m a)

pub ThreeSplits-stay : (k : Kind) (v w : View) (t : Task) (x : ℕ) (a b : Task) → Grown v w → AreThree k v t.f t.g t.h → ThreeSplits k v t x a b → ThreeSplits k w t x a b
ThreeSplits-stay k v w t x a b m d s = record {
  in_range = IsVariable-grown k m x s.in_range;
  f = rw (values_at-grown Bdd m d.condition) (Splits-grown Bdd m s.f);
  g = rw (values_at-grown k m d.first) (Splits-grown k m s.g);
  h = rw (values_at-grown k m d.second) (Splits-grown k m s.h);
}

pub three_depth-stays : (k : Kind) (v w : View) (t : Task) → Grown v w → AreThree k v t.f t.g t.h → three_depth k w t ≡ three_depth k v t
three_depth-stays k v w t m d = rw (levels-grown k m, top-grown Bdd m d.condition, top-grown k m d.first, top-grown k m d.second) refl

pub value_of_three-stays : (k : Kind) (f g h : Edge) (v w : View) (F : Denoted) → Grown v w → AreThree k v f g h → value_of_three k f g h v F → value_of_three k f g h w F
value_of_three-stays k f g h v w F m d is = is ∙ ap (function_of k) (sym (ite_at-grown k m d))

-- a call's answer, and what is told of it, by the operands at its start
pub ite_at-lasts : (k : Kind) (f g h : Edge) (u v w x : View) (e : Edge) → Grown u v → Grown w x → AreThree k u f g h
    → Denotes k w e (ite_at k v f g h) → Denotes k x e (ite_at k u f g h)
ite_at-lasts k f g h u v w x e before after d a = Denotes-lasts k after (ite_at-grown k before d) a

pub ite-overflows : (k : Kind) {v w : View} {f g h : Edge} → Grown v w → AreThree k v f g h → Overflows k (ite_at k w f g h) → Overflows k (ite_at k v f g h)
ite-overflows k m d over = subst (Overflows k) (ite_at-grown k m d) over

pub value_of_three-back : (k : Kind) (f g h : Edge) (v w : View) (F : Denoted) → Grown v w → AreThree k v f g h → value_of_three k f g h w F → value_of_three k f g h v F
value_of_three-back k f g h v w F m d is = is ∙ ap (function_of k) (ite_at-grown k m d)
