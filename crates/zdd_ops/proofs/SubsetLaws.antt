-- Operations by one element, step by step.
use Rattle.edge_bits.specs.Permanent.{empty_edge}
use Rattle.std.proofs.Common.{◌≡◌, ◌≢◌, ℕ, ◌<◌, ◌≤◌, Bool, true, false, cond, Option, Some, ℤ, ◌⊎◌, inl, inr, refl, ap, sym, ◌∙◌, subst, arith}
use Rattle.edge_bits.specs.declared.edges.Edge.{Edge}
use Rattle.edge_bits.specs.declared.edges.Kind.TheVariants.{Zdd}
use Rattle.edge_bits.specs.Reading.{element_of}
use Rattle.function_laws.specs.Families.{IsWithout, change, joined, subset0, subset1}
use Rattle.function_laws.proofs.FamilyLemmas.{subset0-joined, subset1-joined}
use Rattle.function_laws.specs.Kinds.{Denoted, ZddFamily}
use Rattle.node_store.specs.Views.{View, CanMake, Denotes, Grown, Is, IsBelow, IsInner, IsLeaf, IsLeafOf, IsVariable, Kept, Permanent, Splits, family_at, no_member, node_values, only_base}
use Rattle.node_store.specs.ViewLaws.{Apart-variables, Denotes-empty, Denotes-grown, Grown-refl, Grown-trans, IsBelow-inner, Is-from, Splits-absent, values_at-grown, values_at-is}
use Rattle.node_store.specs.Splits.{Branches}
use Rattle.node_store.specs.Work.{Adds, IsWork, Moves}
use Rattle.node_store.specs.WorkLaws.{IsPart-grown, IsPart-half, IsWork-due, IsWork-grown, Moves-made}
use Rattle.node_store.specs.declared.binary.Branch.{Branch}
use Rattle.node_store.specs.declared.operator.Task.{Task}
use Rattle.node_store.proofs.TwoParts.{base-without}
use Rattle.zdd_ops.specs.Elementwise.{change-joined}
use Rattle.zdd_ops.specs.Subsets.{ElementOperation, SubsetAnswers, SubsetDue, SubsetSplits, subset_at, subset_at-grown, subset_depth, subset_work}

-- a call that was refused made no node
pub Moves-refused : (Roots : View → Type 0) (Work : View → Denoted → Type 0) (a u w : View) → Kept a u → Grown u w → ((s : ℕ) → w.made s ≡ true → (u.made s ≡ true) ⊎ ⊥) → Moves Roots Work a w
Moves-refused Roots Work a u w k m made = record {
  grown = Grown-trans k.grown m;
  work = λ d s h. elim (made s h) [ inl old ↦ inl (sym (ap (λ (b : ℕ → Bool). b s) k.made) ∙ old) | inr bad ↦ absurd bad ];
}

-- where the element stands
pub Here-own : (w : View) (e : Edge) (v x : ℕ) (hi lo : Edge) → IsInner Zdd w e (family_at w e) x hi lo → x ≡ v → Splits Zdd w v (family_at w e) hi lo
Here-own w e v x hi lo i same = subst (λ y. Splits Zdd w y (family_at w e) hi lo) same i.splits

Lacks-leaf : (e : Edge) (f : ℕ → Bool) (x : ℤ) → IsLeafOf Zdd e f x → (u : ℕ) → IsWithout f u
Lacks-leaf _ _ _ no_member u = λ a has. refl
Lacks-leaf _ _ _ only_base u = base-without u

Absent : (w : View) (e hi : Edge) (v : ℕ) → Permanent w → IsVariable Zdd w v → Is Zdd w e → hi ≡ empty_edge → IsBelow Zdd w v (family_at w e) → Splits Zdd w v (family_at w e) hi e
Absent w e hi v p vn d is below = rw is (Splits-absent Zdd d (Denotes-empty w p) below vn)

pub Here-leaf : (w : View) (e hi : Edge) (v : ℕ) (x : ℤ) → Permanent w → IsVariable Zdd w v → Is Zdd w e → hi ≡ empty_edge → IsLeaf Zdd w e (family_at w e) x → Splits Zdd w v (family_at w e) hi e
Here-leaf w e hi v x p vn d is i = Absent w e hi v p vn d is (λ u un le. Lacks-leaf e (family_at w e) x i.leaf (element_of u))

pub Here-below : (w : View) (e hi : Edge) (v x : ℕ) (a b : Edge) → Permanent w → Is Zdd w e → IsVariable Zdd w v → hi ≡ empty_edge → IsInner Zdd w e (family_at w e) x a b → x ≢ v → w.level v ≤ w.level x
    → Splits Zdd w v (family_at w e) hi e
Here-below w e hi v x a b p d vn is i apart le =
    let ne : w.level v ≡ w.level x → ⊥ = λ s. apart (sym (i.alone v vn s)) in
    Absent w e hi v p vn d is (IsBelow-inner Zdd v i (omega arith))

pub Splits-can : (w : View) (v : ℕ) (f : ℕ → Bool) (hi lo : Edge) → IsVariable Zdd w v → Splits Zdd w v f hi lo → CanMake Zdd w v hi lo
Splits-can w v f hi lo vn s = record { in_range = vn; hi_is = s.hi_is; lo_is = s.lo_is; hi_below = s.hi_below; lo_below = s.lo_below }

different : (w : View) (x v : ℕ) → w.level x < w.level v → x ≢ v
different w x v lt same = let s = ap w.level same in omega arith

-- the three operations at the node of the element
module _ (w : View) (v : ℕ) (hi lo : Edge) (can : CanMake Zdd w v hi lo) where
  at_hi : IsWithout (family_at w hi) (element_of v)
  at_hi = can.hi_below v can.in_range (omega arith)

  at_lo : IsWithout (family_at w lo) (element_of v)
  at_lo = can.lo_below v can.in_range (omega arith)

  pub With-answer : (u : View) → Kept w u → Denotes Zdd u hi (subset1 (node_values Zdd w v hi lo) (element_of v))
  With-answer u k = rw (subset1-joined (family_at w hi) (family_at w lo) (element_of v) at_hi) (Denotes-grown Zdd k.grown can.hi_is)

  pub Without-answer : (u : View) → Kept w u → Denotes Zdd u lo (subset0 (node_values Zdd w v hi lo) (element_of v))
  Without-answer u k = rw (subset0-joined (family_at w hi) (family_at w lo) (element_of v) at_lo) (Denotes-grown Zdd k.grown can.lo_is)

  pub Toggled-can : CanMake Zdd w v lo hi
  Toggled-can = record { in_range = can.in_range; hi_is = can.lo_is; lo_is = can.hi_is; hi_below = can.lo_below; lo_below = can.hi_below }

  pub Toggled-is : node_values Zdd w v lo hi ≡ change (node_values Zdd w v hi lo) (element_of v)
  Toggled-is = sym (change-joined (family_at w hi) (family_at w lo) (element_of v) at_hi at_lo)

-- the node of the element, as the operand has it
pub here_is : (part : ElementOperation) (a w : View) (v : ℕ) (e hi lo : Edge) → Grown a w → Is Zdd a e → Splits Zdd w v (family_at w e) hi lo → part (node_values Zdd w v hi lo) (element_of v) ≡ subset_at part v a e
here_is part a w v e hi lo m d s = ap (λ f. part f (element_of v)) (sym s.is ∙ values_at-grown Zdd m d)

-- the step at another element
module _ (part : ElementOperation)
    (other : (p q : ℕ → Bool) (x e : ℕ) → x ≢ e → part (joined x p q) e ≡ joined x (part p e) (part q e))
    (lacks : (p : ℕ → Bool) (e u : ℕ) → u ≢ e → IsWithout p u → IsWithout (part p e) u)
    (v : ℕ) (root : Edge) where
  Subset-is : (w : View) (t hi lo : Task) (x : ℕ) → IsVariable Zdd w v → SubsetSplits v w t x hi lo → subset_at part v w t.f ≡ joined (element_of x) (subset_at part v w hi.f) (subset_at part v w lo.f)
  Subset-is w t hi lo x vn s =
      ap (λ f. part f (element_of v)) s.f.is
      ∙ other (family_at w hi.f) (family_at w lo.f) (element_of x) (element_of v) (Apart-variables Zdd w x v s.in_range vn (different w x v s.above))

  -- a part lacks what stands above, and the split's element
  IsBelow-subset : (w : View) (x : ℕ) (f : ℕ → Bool) → IsVariable Zdd w v → w.level x < w.level v → IsBelow Zdd w x f → IsBelow Zdd w x (part f (element_of v))
  IsBelow-subset w x f vn lt below u un le =
      let far : w.level u < w.level v = omega arith in
      lacks f (element_of v) (element_of u) (Apart-variables Zdd w u v un vn (different w u v far)) (below u un le)

  pub SubsetDue-half : (w : View) (t hi lo half : Task) (x : ℕ) (b : Bool) → SubsetDue part v root w t → SubsetSplits v w t x hi lo → half.f ≡ cond b hi.f lo.f → SubsetDue part v root w half
  SubsetDue-half w t hi lo half x true d s is = rw_half
    where
      rw_half : SubsetDue part v root w half
      rw_half = record {
        permanent = d.permanent;
        element = d.element;
        of_root = d.of_root;
        family = rw is s.f.hi_is;
        is_part = rw is (IsPart-half Zdd w x (subset_at part v w root) (subset_at part v w t.f) (subset_at part v w hi.f) (subset_at part v w lo.f) true s.in_range (Subset-is w t hi lo x d.element s)
            (IsBelow-subset w x (family_at w hi.f) d.element s.above s.f.hi_below) (IsBelow-subset w x (family_at w lo.f) d.element s.above s.f.lo_below) d.is_part);
      }
  SubsetDue-half w t hi lo half x false d s is = record {
    permanent = d.permanent;
    element = d.element;
    of_root = d.of_root;
    family = rw is s.f.lo_is;
    is_part = rw is (IsPart-half Zdd w x (subset_at part v w root) (subset_at part v w t.f) (subset_at part v w hi.f) (subset_at part v w lo.f) false s.in_range (Subset-is w t hi lo x d.element s)
        (IsBelow-subset w x (family_at w hi.f) d.element s.above s.f.hi_below) (IsBelow-subset w x (family_at w lo.f) d.element s.above s.f.lo_below) d.is_part);
  }

  pub Subset-can_make : (w : View) (t hi lo : Task) (x : ℕ) (a b : Edge) → IsVariable Zdd w v → SubsetSplits v w t x hi lo → SubsetAnswers part v w hi a → SubsetAnswers part v w lo b → CanMake Zdd w x a b
  Subset-can_make w t hi lo x a b vn s da db = record {
    in_range = s.in_range;
    hi_is = Is-from Zdd da;
    lo_is = Is-from Zdd db;
    hi_below = rw (values_at-is Zdd da) (IsBelow-subset w x (family_at w hi.f) vn s.above s.f.hi_below);
    lo_below = rw (values_at-is Zdd db) (IsBelow-subset w x (family_at w lo.f) vn s.above s.f.lo_below);
  }

  pub Subset-node : (w : View) (t hi lo : Task) (x : ℕ) (a b : Edge) → IsVariable Zdd w v → SubsetSplits v w t x hi lo → SubsetAnswers part v w hi a → SubsetAnswers part v w lo b → node_values Zdd w x a b ≡ subset_at part v w t.f
  Subset-node w t hi lo x a b vn s da db = rw (values_at-is Zdd da, values_at-is Zdd db) (sym (Subset-is w t hi lo x vn s))

  -- the two parts of a task, in a later view
  pub Subset-branches : (w : View) (t : Task) (b : Branch) (hi lo : Edge) → SubsetDue part v root w t → IsInner Zdd w t.f (family_at w t.f) b.var hi lo
      → w.level b.var < w.level v → b.task ≡ t → b.flip ≡ false → b.hi.f ≡ hi → b.lo.f ≡ lo
      → Branches (SubsetDue part v root) (SubsetAnswers part v) (λ _ _. ⊥) (SubsetSplits v) subset_depth w t b
  Subset-branches w t b hi lo d i lt task flip eh elo =
      let splits : SubsetSplits v w t b.var b.hi b.lo = record { in_range = i.in_range; above = lt; f = rw (eh, elo) i.splits } in
      let here = i.here in let within = i.within in
      let ht = i.hi_top in let ltop = i.lo_top in
      let eh2 = ap (λ (e : Edge). w.top e.index) eh in let el2 = ap (λ (e : Edge). w.top e.index) elo in
      record {
        due = subst (SubsetDue part v root w) (sym task) d;
        leads = record {
          gives = λ x e n a. rw flip (subst (λ u. SubsetAnswers part v x u e) task a);
          over = λ x n h. h;
        };
        splits = subst (λ u. SubsetSplits v w u b.var b.hi b.lo) (sym task) splits;
        hi_due = SubsetDue-half w t b.hi b.lo b.hi b.var true d splits refl;
        lo_due = SubsetDue-half w t b.hi b.lo b.lo b.var false d splits refl;
        hi_less = omega arith;
        lo_less = omega arith;
      }

  -- what an answer stored or was due is part of the work
  pub Subset-moved : (a w : View) (t : Task) (e : Edge) → SubsetDue part v root a t → Grown a w → ((s : ℕ) → w.made s ≡ true → (a.made s ≡ true) ⊎ (e.index ≡ s))
      → Denotes Zdd w e (subset_at part v a t.f) → Moves (λ u. Is Zdd u root) (subset_work part v root) a w
  Subset-moved a w t e d m made is = Moves-made Zdd (λ u. Is Zdd u root) (subset_work part v root) a w e (subset_at part v a root) (subset_at part v a t.f) m made
      (λ r. ap ZddFamily (sym (subset_at-grown part v root a w m r))) (IsPart-grown Zdd m (subset_at part v a root) (subset_at part v a t.f) d.is_part) is

  pub Subset-moved-kept : (a u w : View) (t : Task) (e : Edge) → SubsetDue part v root a t → Kept a u → Grown u w → ((s : ℕ) → w.made s ≡ true → (u.made s ≡ true) ⊎ (e.index ≡ s))
      → Denotes Zdd w e (subset_at part v a t.f) → Moves (λ x. Is Zdd x root) (subset_work part v root) a w
  Subset-moved-kept a u w t e d k m made is =
      Subset-moved a w t e d (Grown-trans k.grown m) (λ s h. elim (made s h) [ inl old ↦ inl (let same = ap (λ (b : ℕ → Bool). b s) k.made in sym same ∙ old) | inr new ↦ inr new ]) is

  pub Subset-refused : (a w : View) (t : Task) → SubsetDue part v root a t → Grown a w → w.due ≡ Some (ZddFamily (subset_at part v a t.f)) → IsWork w (subset_work part v root w) w.due
  Subset-refused a w t d m is = IsWork-due Zdd w (subset_work part v root w) (subset_at part v a root) (subset_at part v a t.f)
      (ap ZddFamily (sym (subset_at-grown part v root a w m d.of_root))) (IsPart-grown Zdd m (subset_at part v a root) (subset_at part v a t.f) d.is_part) is

  pub Subset-start : (a w : View) → Grown a w → Is Zdd a root → (o : Option Denoted) → IsWork w (subset_work part v root w) o → IsWork w (subset_work part v root a) o
  Subset-start a w m d o i = IsWork-grown (Grown-refl w) (subset_work part v root w) (subset_work part v root a) (λ F is. is ∙ ap ZddFamily (subset_at-grown part v root a w m d)) o i

  pub Subset-adds : (a w : View) → Is Zdd a root → Moves (λ u. Is Zdd u root) (subset_work part v root) a w → Adds (subset_work part v root a) a w
  Subset-adds a w d m s h = elim (m.work d s h) [ inl old ↦ inl old | inr i ↦ inr (Subset-start a w m.grown d (w.content s) i) ]
