-- The steps of a cover's function, from view to view.
use Rattle.std.proofs.Common.{◌≡◌, ℕ, zero, suc, ◌/◌, ◌%◌, ◌<◌, ◌==◌, Bool, true, false, true≢false, cond, ◌||◌, ◌&&◌, Option, ℤ, ◌⊎◌, inl, inr, Result, refl, ap, ap₂, sym, ◌∙◌, subst, arith}
use Rattle.std.specs.Prelude.{nat_lt}
use Rattle.std.proofs.lemmas.Bool.{ltb-true}
use Rattle.edge_bits.specs.Permanent.{base_slot, empty_slot, truth_edge}
use Rattle.edge_bits.specs.Reading.{element_of}
use Rattle.edge_bits.specs.declared.edges.Edge.{Edge}
use Rattle.edge_bits.specs.declared.edges.Kind.TheVariants.{Bdd, Zdd}
use Rattle.function_laws.specs.Kinds.{Denoted, BddFunction}
use Rattle.function_laws.specs.Values.{conjunction, disjunction}
use Rattle.node_store.specs.Memo.{FamilyHolds, MemoHolds, last_of, literal}
use Rattle.node_store.specs.Operations.{Runs}
use Rattle.node_store.specs.Splits.{Branches}
use Rattle.node_store.specs.Two.{value_of_two}
use Rattle.node_store.specs.Views.{View, AreTwo, Denotes, Grown, Is, IsInner, IsKey, IsLeaf, Kept, Permanent, bdd_at, family_at}
use Rattle.node_store.specs.ViewLaws.{Denotes-grown, Denotes-truth, Grown-trans, Is-from, Is-grown, values_at-grown, values_at-is}
use Rattle.node_store.specs.Work.{Adds, IsPart, IsWork, Moves}
use Rattle.node_store.specs.WorkLaws.{IsPart-half, Moves-both}
use Rattle.node_store.specs.declared.binary.Branch.{Branch}
use Rattle.node_store.specs.declared.operator.Halt.{Halt}
use Rattle.node_store.specs.declared.operator.Task.{Task}
use Rattle.node_store.proofs.Literals.{same_variable}
use Rattle.node_store.proofs.Running.{IsWork-named, Serves-after, Serves-named}
use Rattle.node_store.proofs.TwoParts.{bit-zero}
use Rattle.zdd_ops.proofs.ProductLaws.{base_at, empty_at, no_leaf}
use Rattle.zdd_ops.specs.Subsets.{subset_depth}
use Rattle.cover_isop.specs.Covers.{CoverAnswers, CoverDue, CoverSplits, HasCover, cover_at, cover_key, cover_work, narrowed}
use Rattle.cover_isop.specs.CoverLasts.{CoverDue-stays, HasCover-grown, cover-grown, cover_work-stays}
use Rattle.cover_isop.proofs.CoverFunctions.{cover-base, cover-empty, cover-joined}

-- Empty and Base
pub Cover-empty : (n : ℕ) (w : View) (f : Edge) → Permanent w → f.index ≡ empty_slot → Denotes Bdd w (truth_edge false) (cover_at n w (family_at w f))
Cover-empty n w f p here = subst (Denotes Bdd w (truth_edge false)) (sym (ap (cover_at n w) (empty_at w p f here) ∙ cover-empty n w.elements)) (Denotes-truth w p false)

pub Cover-base : (n : ℕ) (w : View) (f : Edge) → Permanent w → Is Zdd w f → f.index ≡ base_slot → Denotes Bdd w (truth_edge true) (cover_at n w (family_at w f))
Cover-base n w f p d here = subst (Denotes Bdd w (truth_edge true)) (sym (ap (cover_at n w) (base_at w p f d here) ∙ cover-base n w.elements)) (Denotes-truth w p true)

-- what was opened is neither
pub never_leaf : (u w : View) (f : Edge) (x : ℤ) → Grown u w → Is Zdd u f → (f.index ≡ empty_slot → ⊥) → (f.index ≡ base_slot → ⊥) → IsLeaf Zdd w f (family_at u f) x → ⊥
never_leaf u w f x m d not_empty not_base leaf =
    let now : IsLeaf Zdd w f (family_at w f) x = rw (values_at-grown Zdd m d) leaf in no_leaf w f f not_empty not_base x x now now

-- how many variables an edge tells
last-same : (a b : ℕ) → last_of a ≡ last_of b → a ≡ b
last-same zero zero same = refl
last-same (suc u) (suc v) same = ap suc (same_variable u v same)
last-same zero (suc v) same = absurd (true≢false (ap (λ (f : ℕ → Bool). f 0) same ∙ bit-zero v))
last-same (suc u) zero same = absurd (true≢false (ap (λ (f : ℕ → Bool). f 0) (sym same) ∙ bit-zero u))

-- the memo
module _ (n : ℕ) (w : View) (f last : Edge) (tells : Denotes Bdd w last (last_of n)) where
  pub Cover-key : Is Zdd w f → IsKey w (cover_key f last)
  Cover-key d = record { least = omega arith; most = omega arith; f = (Zdd, d); g = (Bdd, Is-from Bdd tells); h = (Zdd, d) }

  pub Cover-kept : (e : Edge) → Is Zdd w f → Denotes Bdd w e (cover_at n w (family_at w f)) → MemoHolds w (cover_key f last) e
  unfolding FamilyHolds
  Cover-kept e d is = record { variables = n; last = tells; f = d; answer = is }

  pub Cover-hit : (e : Edge) → MemoHolds w (cover_key f last) e → Denotes Bdd w e (cover_at n w (family_at w f))
  unfolding FamilyHolds
  Cover-hit e h = subst (λ x. Denotes Bdd w e (cover_at x w (family_at w f))) (last-same h.variables n (sym (values_at-is Bdd h.last) ∙ values_at-is Bdd tells)) h.answer

-- the two parts of a task
module _ (n : ℕ) (p last : Edge) (w : View) (t hi lo : Task) (x : ℕ) (d : CoverDue n p last w t) (s : CoverSplits w t x hi lo) where
  half : (b : Bool) → IsPart Zdd w (family_at w p) (cond b (family_at w hi.f) (family_at w lo.f))
  half b = IsPart-half Zdd w x (family_at w p) (family_at w t.f) (family_at w hi.f) (family_at w lo.f) b s.in_range s.splits.is s.splits.hi_below s.splits.lo_below d.part

  hi_due : CoverDue n p last w hi
  hi_due = record { permanent = d.permanent; tells = d.tells; root = d.root; family = s.splits.hi_is; part = half true }

  lo_due : CoverDue n p last w lo
  lo_due = record { permanent = d.permanent; tells = d.tells; root = d.root; family = s.splits.lo_is; part = half false }

  task-is : cover_at n w (family_at w t.f) ≡ disjunction (narrowed n (element_of x) (cover_at n w (family_at w hi.f))) (cover_at n w (family_at w lo.f))
  task-is = ap (cover_at n w) s.splits.is
      ∙ cover-joined n w.elements (element_of x) (family_at w hi.f) (family_at w lo.f) (let r = s.in_range in omega (arith, r.0, r.1)) (s.splits.hi_below x s.in_range (omega arith)) (s.splits.lo_below x s.in_range (omega arith))

pub Cover-branches : (n : ℕ) (p last : Edge) (a u w : View) (t : Task) (b : Branch) (hi lo : Edge) → Grown a u → Grown u w → CoverDue n p last a t → IsInner Zdd w t.f (family_at u t.f) b.var hi lo
    → b.task ≡ t → b.flip ≡ false → b.hi.f ≡ hi → b.lo.f ≡ lo → Branches (CoverDue n p last) (CoverAnswers n) (λ _ _. ⊥) CoverSplits subset_depth w t b
Cover-branches n p last a u w t b hi lo m0 m1 d i task flip sh sl =
    let due = CoverDue-stays n p last a w t (Grown-trans m0 m1) d in
    let splits : CoverSplits w t b.var b.hi b.lo = record { in_range = i.in_range; splits = rw (values_at-grown Zdd m1 (Is-grown Zdd m0 d.family), sh, sl) i.splits } in
    let here = i.here in let within = i.within in let hi_top = i.hi_top in let lo_top = i.lo_top in
    let eh = ap (λ (e : Edge). w.top e.index) sh in let el = ap (λ (e : Edge). w.top e.index) sl in
    record {
      due = subst (CoverDue n p last w) (sym task) due;
      leads = record { gives = λ y e late is. rw flip (subst (λ u. CoverAnswers n y u e) task is); over = λ y late bad. bad };
      splits = subst (λ u. CoverSplits w u b.var b.hi b.lo) (sym task) splits;
      hi_due = hi_due n p last w t b.hi b.lo b.var due splits;
      lo_due = lo_due n p last w t b.hi b.lo b.var due splits;
      hi_less = omega arith;
      lo_less = omega arith;
    }

-- a function times a literal
module _ (n e : ℕ) where
  pub narrowed-none : (f : ℕ → Bool) → nat_lt (e / 2) n ≡ false → narrowed n e f ≡ f
  narrowed-none f is = rw is refl

  pub Narrow-calls : (u v w : View) (f l : Edge) (r : Result Edge Halt) → nat_lt (e / 2) n ≡ true → Kept u v → Is Bdd u f → Denotes Bdd v l (literal (e / 2) (e % 2 == 0))
      → Runs Bdd (conjunction (bdd_at v f) (bdd_at v l)) (value_of_two Bdd (λ a b. a && b) f l v) v w r → Runs Bdd (narrowed n e (bdd_at u f)) (λ F. F ≡ BddFunction (narrowed n e (bdd_at u f))) u w r
  Narrow-calls u v w f l r few k d is run = Serves-after k (Serves-named (λ x a. subst (Denotes Bdd w x) same a) (λ bad. bad) (λ F told. told ∙ ap BddFunction same) run)
    where
      same : conjunction (bdd_at v f) (bdd_at v l) ≡ narrowed n e (bdd_at u f)
      same = rw few (ap₂ conjunction (values_at-grown Bdd k.grown d) (values_at-is Bdd is))

-- what stores functions of the work
module _ (n : ℕ) (p : Edge) (u w : View) (P : Denoted → Type 0) (m : Grown u w) (more : (F : Denoted) → P F → cover_work n p u F) where
  pub Cover-work : HasCover n u p → (o : Option Denoted) → IsWork w P o → IsWork w (cover_work n p w) o
  Cover-work d o i = IsWork-named (λ F is. cover_work-stays n p u w F m d (more F is)) i

  pub Cover-moved : Adds P u w → Moves (λ v. HasCover n v p) (cover_work n p) u w
  Cover-moved adds = record { grown = m; work = λ d s here. elim (adds s here) [ inl old ↦ inl old | inr i ↦ inr (Cover-work d (w.content s) i) ] }

pub Cover-both : (n : ℕ) (p : Edge) (u v w : View) → Moves (λ x. HasCover n x p) (cover_work n p) u v → Moves (λ x. HasCover n x p) (cover_work n p) v w → Moves (λ x. HasCover n x p) (cover_work n p) u w
Cover-both n p = Moves-both (λ x. HasCover n x p) (cover_work n p) (λ x y m d. HasCover-grown m d) (cover_work-stays n p)

-- both parts of a task have their answers
module _ (n : ℕ) (p last : Edge) (u : View) (t hi lo : Task) (x : ℕ) (a b : Edge) (d : CoverDue n p last u t) (s : CoverSplits u t x hi lo) (a_is : CoverAnswers n u hi a) (b_is : CoverAnswers n u lo b) where
  pub With-work : (F : Denoted) → F ≡ BddFunction (narrowed n (element_of x) (bdd_at u a)) → cover_work n p u F
  With-work F is = (family_at u hi.f, (half n p last u t hi lo x d s true, at (nat_lt (element_of x / 2) n) refl))
    where
      at : (c : Bool) → nat_lt (element_of x / 2) n ≡ c
          → (F ≡ BddFunction (cover_at n u (family_at u hi.f))) ⊎ ((v : ℕ) × (c : Bool) × (v < n) × (F ≡ BddFunction (conjunction (cover_at n u (family_at u hi.f)) (literal v c))))
      at true few = inr (element_of x / 2, element_of x % 2 == 0, ltb-true (element_of x / 2) n few, rw (few, values_at-is Bdd a_is) at is)
      at false many = inl (rw (many, values_at-is Bdd a_is) at is)

  -- the or of the first, with its literal, and the second
  module _ (v : View) (m : Grown u v) (first : Edge) (first_is : Denotes Bdd v first (narrowed n (element_of x) (bdd_at u a))) where
    pub Both-two : AreTwo Bdd v first b
    Both-two = record { first = Is-from Bdd first_is; second = Is-from Bdd (Denotes-grown Bdd m b_is) }

    both-is : disjunction (bdd_at v first) (bdd_at v b) ≡ cover_at n u (family_at u t.f)
    both-is = ap₂ disjunction (values_at-is Bdd first_is ∙ ap (narrowed n (element_of x)) (values_at-is Bdd a_is)) (values_at-is Bdd (Denotes-grown Bdd m b_is)) ∙ sym (task-is n p last u t hi lo x d s)

    pub Both-work : (F : Denoted) → value_of_two Bdd (λ y z. y || z) first b v F → cover_work n p v F
    Both-work F is = cover_work-stays n p u v F m d.root (family_at u t.f, (d.part, inl (is ∙ ap BddFunction both-is)))

    pub Both-answer : (w : View) (e : Edge) → Grown v w → Denotes Bdd w e (disjunction (bdd_at v first) (bdd_at v b)) → CoverAnswers n w t e
    Both-answer w e l is = subst (Denotes Bdd w e) (both-is ∙ sym (cover-grown n (Grown-trans m l) d.family)) is
