-- The values of the quantifiers, and what they store, by the list of variables.
use Rattle.std.proofs.Common.{◌≡◌, ℕ, Bool, true, List, Option, Some, ◌⊎◌, inl, inr, Result, Ok, Err, refl, sym, ap, ◌∙◌, subst, arith}
use Rattle.edge_bits.specs.Permanent.{truth_edge}
use Rattle.edge_bits.specs.declared.edges.Edge.{Edge}
use Rattle.edge_bits.specs.declared.edges.Kind.{Kind}
use Rattle.edge_bits.specs.declared.edges.Kind.TheVariants.{Bdd, Add, Zdd}
use Rattle.function_laws.specs.Cubes.{cube_of, IsCube}
use Rattle.function_laws.specs.Values.{cofactor, conjunction, constant, exists_all, forall_all, negation}
use Rattle.function_laws.proofs.CubeLemmas.{IsCube-of, IsExists-all, IsExists-same}
use Rattle.function_laws.proofs.ExistsLemmas.{forall_all-negation}
use Rattle.node_store.specs.Edges.{flip_if}
use Rattle.function_laws.specs.Kinds.{Denoted, BddFunction, ValueOf, function_of, values_of, opposite}
use Rattle.node_store.specs.Views.{View, AreTwo, Denotes, Grown, Is, Permanent, bdd_at}
use Rattle.node_store.specs.ViewLaws.{Grown-refl, Grown-trans, Denotes-flip, Denotes-grown, Denotes-truth, Is-from, values_at-is, values_at-grown}
use Rattle.node_store.specs.Work.{whole, cut, IsPart, IsWork}
use Rattle.node_store.specs.WorkLaws.{IsPart-back, IsPart-not, IsWork-grown}
use Rattle.node_store.specs.Operations.{Serves}
use Rattle.node_store.specs.declared.operator.Halt.{Halt}
use Rattle.node_store.proofs.Running.{IsWork-named}
use Rattle.node_store.proofs.ComplementWork.{negation-negation, IsWork-negation}
use Rattle.ite_core.proofs.Complements.{flipped-is, flipped_outcome}
use Rattle.quantify_ops.specs.Products.{IsCubeOf}
use Rattle.quantify_ops.proofs.ProductLaws.{Adds-both}
use Rattle.quantify_ops.specs.Quantified.{both_at, HasCube, AreQuantified, IsQuantifiedValue, QuantifiedDue, QuantifiedAnswers}
use Rattle.quantify_ops.specs.Works.{value_of_and_exists, value_of_exists, value_of_forall, work_of_and_exists, work_of_exists, work_of_forall}

-- the call's own task
HasCube-product : (w : View) (c : Edge) (vars : List ℕ) → IsCubeOf w c vars → HasCube w c
HasCube-product w c vars d = record { edge = Is-from Bdd d; cube = subst IsCube (sym (values_at-is Bdd d)) (IsCube-of vars) }

pub root_quantified : (w : View) (f g c : Edge) (vars : List ℕ) → AreTwo Bdd w f g → IsCubeOf w c vars → AreQuantified w f g c
root_quantified w f g c vars two d = record { two = two; cube = HasCube-product w c vars d }

pub root_due : (w : View) (f g c : Edge) (vars : List ℕ) → Permanent w → AreTwo Bdd w f g → IsCubeOf w c vars → QuantifiedDue f g c w (record { f = f; g = g; h = c })
root_due w f g c vars p two d = record {
  permanent = p;
  roots = root_quantified w f g c vars two d;
  operands = root_quantified w f g c vars two d;
  part_f = whole;
  part_g = whole;
  level = 0;
  free_f = λ u un lt. absurd (omega arith);
  free_g = λ u un lt. absurd (omega arith);
  left = λ a h free e. e;
}

-- its answer
pub root_answer : (v w : View) (f g c : Edge) (vars : List ℕ) (e : Edge) → Grown v w → AreTwo Bdd v f g → IsCubeOf v c vars → QuantifiedAnswers w (record { f = f; g = g; h = c }) e
    → Denotes Bdd w e (exists_all (both_at v f g) vars)
root_answer v w f g c vars e m two d a =
    let is = rw (values_at-is Bdd (Denotes-grown Bdd m d), values_at-grown Bdd m two.first, values_at-grown Bdd m two.second) at a.exists in
    subst (λ h. Denotes Bdd w e h) (IsExists-same (cube_of vars) (both_at v f g) (bdd_at w e) (exists_all (both_at v f g) vars) is (IsExists-all (both_at v f g) vars)) a.answer

-- what it stores
pub quantified_back : (v w : View) (f g c : Edge) (vars : List ℕ) → Grown v w → AreTwo Bdd v f g → IsCubeOf v c vars → (F : Denoted) → IsQuantifiedValue f g c w F → value_of_and_exists f g vars v F
quantified_back v w f g c vars m two d F i =
    let part_f = rw (values_at-grown Bdd m two.first) at i.part_f in
    let part_g = rw (values_at-grown Bdd m two.second) at i.part_g in
    let is = rw (values_at-is Bdd (Denotes-grown Bdd m d)) at i.exists in (
      i.a,
      i.b,
      (
        IsPart-back Bdd m (bdd_at v f) i.a part_f,
        IsPart-back Bdd m (bdd_at v g) i.b part_g,
        i.is ∙ ap BddFunction (IsExists-same (cube_of vars) (conjunction i.a i.b) i.h (exists_all (conjunction i.a i.b) vars) is (IsExists-all (conjunction i.a i.b) vars)),
      ),
    )

-- a conjunction with true
constant_part : (w : View) (a : ℕ → Bool) → IsPart Bdd w (constant true) a → a ≡ constant true
constant_part w _ whole = refl
constant_part w _ (cut g v b vn above p) = ap (λ h. cofactor h v b) (constant_part w g p)

true_is : (w : View) → Permanent w → (one : Edge) → one ≡ truth_edge true → bdd_at w one ≡ constant true
true_is w p one same = rw same (values_at-is Bdd (Denotes-truth w p true))

pub with_true : (w : View) → Permanent w → (one f : Edge) → one ≡ truth_edge true → Is Bdd w f → AreTwo Bdd w one f
with_true w p one f same d = record { first = rw same (Is-from Bdd (Denotes-truth w p true)); second = d }

pub true_and : (w : View) → Permanent w → (one f : Edge) → one ≡ truth_edge true → (vars : List ℕ) → exists_all (both_at w one f) vars ≡ exists_all (bdd_at w f) vars
true_and w p one f same vars = ap (λ h. exists_all (conjunction h (bdd_at w f)) vars) (true_is w p one same)

pub true_value : (w : View) → Permanent w → (one f : Edge) → one ≡ truth_edge true → (vars : List ℕ) (F : Denoted) → value_of_and_exists one f vars w F → value_of_exists f vars w F
true_value w p one f same vars F (a, b, (part_one, part_f, is)) =
    let part = subst (λ h. IsPart Bdd w h a) (true_is w p one same) part_one in
    (b, (part_f, is ∙ ap (λ h. BddFunction (exists_all (conjunction h b) vars)) (constant_part w a part)))

pub true_work : (w : View) → Permanent w → (one f : Edge) → one ≡ truth_edge true → (vars : List ℕ) (F : Denoted) → work_of_and_exists one f vars w F → work_of_exists f vars w F
true_work w p one f same vars F (inl v) = inl (true_value w p one f same vars F v)
true_work w p one f same vars F (inr is) = inr is

-- by complements
not_exists_not : (f : ℕ → Bool) (vars : List ℕ) → negation (exists_all f vars) ≡ forall_all (negation f) vars
not_exists_not f vars = ap (λ h. negation (exists_all h vars)) (negation-negation f) ∙ forall_all-negation (negation f) vars

pub not_answer : (v w : View) (f n e e2 : Edge) (vars : List ℕ) → n ≡ flip_if true f → e2 ≡ flip_if true e → Is Bdd v f → Denotes Bdd w e (exists_all (bdd_at v n) vars)
    → Denotes Bdd w e2 (forall_all (bdd_at v f) vars)
not_answer v w f n e e2 vars same se d is = rw se (subst (λ h. Denotes Bdd w (flip_if true e) h)
    (ap (λ h. negation (exists_all h vars)) (flipped-is v f n same d) ∙ forall_all-negation (bdd_at v f) vars) (Denotes-flip is))

not_part : (v : View) (f n : Edge) (a : ℕ → Bool) → n ≡ flip_if true f → Is Bdd v f → IsPart Bdd v (bdd_at v n) a → IsPart Bdd v (bdd_at v f) (negation a)
not_part v f n a same d part =
    subst (λ h. IsPart Bdd v h (negation a)) (ap negation (flipped-is v f n same d) ∙ sym (negation-negation (bdd_at v f))) (IsPart-not v (bdd_at v n) a part)

module _ (v w : View) (f n : Edge) (vars : List ℕ) (same : n ≡ flip_if true f) (d : Is Bdd v f) where
  not_value : (root : ℕ → Bool) → value_of_exists n vars v (BddFunction root) → (F : Denoted) → F ≡ BddFunction (negation root) → value_of_forall f vars v F
  not_value root (a, (part, is)) F is_not = (
    negation a,
    (
      not_part v f n a same d part,
      is_not ∙ ap (λ G. BddFunction (negation (values_of Bdd (Some G)))) is ∙ ap BddFunction (not_exists_not a vars),
    ),
  )

  pub not_due : (o : Option Denoted) → IsWork w (value_of_exists n vars v) o → IsWork w (value_of_forall f vars v) o
  not_due o i = by_kind i.kind i.root i.part i.asked i.is_part i.is
    where
      by_kind : (k : Kind) (root p : ℕ → ValueOf k) → value_of_exists n vars v (function_of k root) → IsPart k w root p
          → (o ≡ Some (function_of k p)) ⊎ (o ≡ Some (opposite (function_of k p))) → IsWork w (value_of_forall f vars v) o
      by_kind Bdd root p asked q is =
          let one : IsWork w (λ F. F ≡ BddFunction root) o = record { kind = Bdd; root = root; part = p; asked = refl; is_part = q; is = is } in
          IsWork-grown (Grown-refl w) (λ F. F ≡ BddFunction (negation root)) (value_of_forall f vars v) (not_value root asked) o (IsWork-negation w root o one)
      by_kind Add root p (a, (part, other)) q is = cc
      by_kind Zdd root p (a, (part, other)) q is = cc

  -- with the product
  pub not_work : (o : Option Denoted) → IsWork w (work_of_exists n vars v) o → IsWork w (work_of_forall f vars v) o
  not_work o i = by_work i.asked
    where
      by_work : work_of_exists n vars v (function_of i.kind i.root) → IsWork w (work_of_forall f vars v) o
      by_work (inl value) = IsWork-grown (Grown-refl w) (value_of_forall f vars v) (work_of_forall f vars v) (λ F is. inl is) o
          (not_due o (record { kind = i.kind; root = i.root; part = i.part; asked = value; is_part = i.is_part; is = i.is }))
      by_work (inr is) = record { kind = i.kind; root = i.root; part = i.part; asked = inr is; is_part = i.is_part; is = i.is }

-- the outcome of a quantified complement, complemented
module _ {S K : Type 0} (v w : View) (f n : Edge) (vars : List ℕ) (same : n ≡ flip_if true f) (d : Is Bdd v f) (V W : Denoted → Type 0)
    (more : (o : Option Denoted) → IsWork w V o → IsWork w W o) where
  pub Serves-forall : (r : Result Edge Halt)
      → Serves (λ e. Denotes Bdd w e (exists_all (bdd_at v n) vars)) ⊥ V S K v w r
      → Serves (λ e. Denotes Bdd w e (forall_all (bdd_at v f) vars)) ⊥ W S K v w (flipped_outcome r)
  Serves-forall (Ok e) s = record {
    grown = s.grown;
    room = s.room;
    answer = not_answer v w f n e (flip_if true e) vars same refl d s.answer;
    overflow = λ is. absurd (never is);
    work = λ i made. elim (s.work i made) [ inl old ↦ inl old | inr is ↦ inr (more (w.content i) is) ];
    memory = λ is. absurd (never is);
    full = λ is. absurd (never is);
    due = λ is. absurd (never is);
  }
    where
      never : {x : Edge} {halt : Halt} → Ok x ≡ Err halt → ⊥
      never is = cc
  Serves-forall (Err halt) s = record {
    grown = s.grown;
    room = s.room;
    answer = tt;
    overflow = s.overflow;
    work = λ i made. elim (s.work i made) [ inl old ↦ inl old | inr is ↦ inr (more (w.content i) is) ];
    memory = s.memory;
    full = s.full;
    due = λ is. more w.due (s.due is);
  }

-- a product, and then a run
pub Serves-then : {A : Edge → Type 0} {W : Denoted → Type 0} {u v w : View} {a b : Result Edge Halt} {B : Edge → Type 0} → Serves B ⊥ W ⊥ (Unit {0}) u v a → Serves A ⊥ W ⊥ (Unit {0}) v w b
    → Serves A ⊥ W ⊥ (Unit {0}) u w b
Serves-then {W = W} {u} {v} {w} p q = record {
  grown = Grown-trans p.grown q.grown;
  room = tt;
  answer = q.answer;
  overflow = q.overflow;
  work = Adds-both W u v w p.grown q.grown p.work q.work;
  memory = λ is. elim (q.memory is) [ inl short ↦ inl short | inr may ↦ inr (p.grown.wants may) ];
  full = λ is few. (let a = q.full is few in let k = p.grown.fulls in omega arith);
  due = q.due;
}

-- no answer, whatever was asked for
pub Serves-failed : {A B : Edge → Type 0} {V W : Denoted → Type 0} {S K : Type 0} {v w : View} {halt : Halt}
    → ((f : Denoted) → V f → W f) → Serves A ⊥ V S K v w (Err halt) → Serves B ⊥ W S K v w (Err halt)
Serves-failed {W = W} {w = w} more s = record {
  grown = s.grown;
  room = s.room;
  answer = tt;
  overflow = s.overflow;
  work = λ i made. elim (s.work i made) [ inl old ↦ inl old | inr is ↦ inr (IsWork-named more is) ];
  memory = s.memory;
  full = s.full;
  due = λ is. IsWork-named more (s.due is);
}
