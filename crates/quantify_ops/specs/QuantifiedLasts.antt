-- What is true of tasks of a quantified conjunction stays true while a store grows.
use Rattle.std.proofs.Common.{ℕ, Bool, inl, inr, sym}
use Rattle.edge_bits.specs.declared.edges.Edge.{Edge}
use Rattle.edge_bits.specs.declared.edges.Kind.TheVariants.{Bdd}
use Rattle.function_laws.specs.Kinds.{Denoted}
use Rattle.node_store.specs.Views.{View, Grown, bdd_at}
use Rattle.node_store.specs.ViewLaws.{Grown-trans, Is-grown, IsVariable-back, IsVariable-grown, Permanent-grown, level-grown, values_at-grown}
use Rattle.node_store.specs.Three.{AreThree, three_depth}
use Rattle.node_store.specs.ThreeLaws.{three_depth-stays}
use Rattle.node_store.specs.TwoLaws.{AreTwo-grown, TwoSplits-stay}
use Rattle.node_store.specs.WorkLaws.{IsPart-grown}
use Rattle.node_store.specs.Waiting.{Waiting-stays}
use Rattle.node_store.specs.declared.operator.Frame.{Frame}
use Rattle.node_store.specs.declared.operator.Task.{Task}
use Rattle.quantify_ops.specs.Quantified.{HasCube, AreQuantified, IsFreeAbove, StandsAbove, IsQuantifiedValue, QuantifiedDue, QuantifiedAnswers, QuantifiedSplits, PartWaits, QuantifiedWaits}

pub HasCube-grown : {v w : View} {c : Edge} → Grown v w → HasCube v c → HasCube w c
HasCube-grown m d = record { edge = Is-grown Bdd m d.edge; cube = rw (values_at-grown Bdd m d.edge) d.cube }

pub AreQuantified-grown : {v w : View} {f g c : Edge} → Grown v w → AreQuantified v f g c → AreQuantified w f g c
AreQuantified-grown m d = record { two = AreTwo-grown Bdd m d.two; cube = HasCube-grown m d.cube }

pub IsFreeAbove-grown : {v w : View} (level : ℕ) (f : ℕ → Bool) → Grown v w → IsFreeAbove v level f → IsFreeAbove w level f
IsFreeAbove-grown level f m free u un lt = free u (IsVariable-back Bdd m u un) (rw (sym (level-grown m u)) lt)

pub IsFreeAbove-back : {v w : View} (level : ℕ) (f : ℕ → Bool) → Grown v w → IsFreeAbove w level f → IsFreeAbove v level f
IsFreeAbove-back level f m free u un lt = free u (IsVariable-grown Bdd m u un) (rw (level-grown m u) lt)

pub StandsAbove-grown : {v w : View} (level : ℕ) (d c : ℕ → Bool) → Grown v w → StandsAbove v level d c → StandsAbove w level d c
StandsAbove-grown level d c m stands a h free e = stands a h (IsFreeAbove-back level a m free) e

pub IsQuantifiedValue-stays : (f g c : Edge) (v w : View) (F : Denoted) → Grown v w → AreQuantified v f g c → IsQuantifiedValue f g c v F → IsQuantifiedValue f g c w F
IsQuantifiedValue-stays f g c v w F m d i = record {
  a = i.a;
  b = i.b;
  h = i.h;
  part_f = rw (values_at-grown Bdd m d.two.first) (IsPart-grown Bdd m (bdd_at v f) i.a i.part_f);
  part_g = rw (values_at-grown Bdd m d.two.second) (IsPart-grown Bdd m (bdd_at v g) i.b i.part_g);
  exists = rw (values_at-grown Bdd m d.cube.edge) i.exists;
  is = i.is;
}

pub QuantifiedDue-stays : (f g c : Edge) (v w : View) (t : Task) → Grown v w → QuantifiedDue f g c v t → QuantifiedDue f g c w t
QuantifiedDue-stays f g c v w t m d = record {
  permanent = Permanent-grown m d.permanent;
  roots = AreQuantified-grown m d.roots;
  operands = AreQuantified-grown m d.operands;
  part_f = rw (values_at-grown Bdd m d.roots.two.first, values_at-grown Bdd m d.operands.two.first) (IsPart-grown Bdd m (bdd_at v f) (bdd_at v t.f) d.part_f);
  part_g = rw (values_at-grown Bdd m d.roots.two.second, values_at-grown Bdd m d.operands.two.second) (IsPart-grown Bdd m (bdd_at v g) (bdd_at v t.g) d.part_g);
  level = d.level;
  free_f = rw (values_at-grown Bdd m d.operands.two.first) (IsFreeAbove-grown d.level (bdd_at v t.f) m d.free_f);
  free_g = rw (values_at-grown Bdd m d.operands.two.second) (IsFreeAbove-grown d.level (bdd_at v t.g) m d.free_g);
  left = rw (values_at-grown Bdd m d.operands.cube.edge, values_at-grown Bdd m d.roots.cube.edge) (StandsAbove-grown d.level (bdd_at v t.h) (bdd_at v c) m d.left);
}

pub QuantifiedAnswers-stay : (v w : View) (t : Task) (e : Edge) → Grown v w → AreQuantified v t.f t.g t.h → QuantifiedAnswers v t e → QuantifiedAnswers w t e
QuantifiedAnswers-stay v w t e m d a = record {
  answer = Is-grown Bdd m a.answer;
  exists = rw (values_at-grown Bdd m d.cube.edge, values_at-grown Bdd m d.two.first, values_at-grown Bdd m d.two.second, values_at-grown Bdd m a.answer) a.exists;
}

pub QuantifiedSplits-stay : (v w : View) (t : Task) (x : ℕ) (a b : Task) → Grown v w → AreQuantified v t.f t.g t.h → QuantifiedSplits v t x a b → QuantifiedSplits w t x a b
QuantifiedSplits-stay v w t x a b m d s = record {
  two = TwoSplits-stay Bdd v w t x a b m d.two s.two;
  above = rw (level-grown m x, values_at-grown Bdd m d.cube.edge) (IsFreeAbove-grown (v.level x) (bdd_at v t.h) m s.above);
  left = HasCube-grown m s.left;
  step = rw (values_at-grown Bdd m d.cube.edge, values_at-grown Bdd m s.left.edge) s.step;
  same = s.same;
}

pub three_operands : (w : View) (t : Task) → AreQuantified w t.f t.g t.h → AreThree Bdd w t.f t.g t.h
three_operands w t d = record { condition = d.two.first; first = d.two.second; second = d.cube.edge }

pub PartWaits-stay : (f g c : Edge) (v w : View) (t : Task) (frame : Frame) (u : Task) → Grown v w → QuantifiedDue f g c v t → PartWaits f g c v t frame u → PartWaits f g c w t frame u
PartWaits-stay f g c v w t frame u m d q = record {
  plain = q.plain;
  waiting = Waiting-stays (QuantifiedDue f g c) QuantifiedAnswers (λ w t. ⊥) QuantifiedSplits (three_depth Bdd) (QuantifiedDue-stays f g c)
      (λ v w t e m d. QuantifiedAnswers-stay v w t e m d.operands) (λ v w t x a b m d. QuantifiedSplits-stay v w t x a b m d.operands)
      (λ v w t m d. three_depth-stays Bdd v w t m (three_operands v t d.operands)) v w t frame u m d q.waiting;
}

pub QuantifiedWaits-stay : (f g c : Edge) (v w : View) (t : Task) (frame : Frame) (u : Task) → Grown v w → QuantifiedDue f g c v t → QuantifiedWaits f g c v t frame u → QuantifiedWaits f g c w t frame u
QuantifiedWaits-stay f g c v w t frame u m d (inl q) = inl (record { only = q.only; own = q.own; passes = record { gives = λ x e late a. q.passes.gives x e (Grown-trans m late) a; over = λ x late bad. bad } })
QuantifiedWaits-stay f g c v w t frame u m d (inr q) = inr (PartWaits-stay f g c v w t frame u m d q)
