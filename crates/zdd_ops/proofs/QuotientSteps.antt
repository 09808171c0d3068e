-- The steps of a quotient, from view to view.
use Rattle.edge_bits.specs.Permanent.{base_slot, empty_slot}
use Rattle.std.proofs.Common.{◌≡◌, ℕ, ◌^◌, ◌<◌, ◌≤◌, eqb, Bool, true, false, cond, ◌&&◌, Option, Some, ℤ, ◌⊎◌, inl, inr, refl, ap, ap₂, sym, ◌∙◌, subst, arith, of_z, w64}
use Rattle.std.specs.Prelude.{min}
use Rattle.edge_bits.specs.Assignments.{set_bit}
use Rattle.edge_bits.specs.declared.edges.Edge.{Edge}
use Rattle.edge_bits.specs.declared.edges.Kind.TheVariants.{Zdd}
use Rattle.edge_bits.specs.Reading.{element_of}
use Rattle.computed_cache.specs.declared.Key.{Key}
use Rattle.function_laws.specs.Lists.{any_below}
use Rattle.function_laws.specs.Families.{IsWithout, empty, joined, meet, subset0}
use Rattle.function_laws.proofs.FamilyLemmas.{subset0-joined}
use Rattle.function_laws.proofs.ListLemmas.{any_below-true, true-any_below}
use Rattle.function_laws.proofs.ValueLemmas.{everywhere}
use Rattle.function_laws.specs.Kinds.{Denoted, ZddFamily}
use Rattle.node_store.specs.Memo.{FamilyHolds, MemoHolds}
use Rattle.node_store.specs.Splits.{Branches, Keeps}
use Rattle.node_store.specs.Two.{two_depth, value_of_two}
use Rattle.node_store.specs.Views.{View, AreTwo, CanMake, CanPart, Denotes, Grown, Is, IsBelow, IsInner, IsKey, IsLeaf, IsLeafOf, IsTop, IsVariable, Kept, NotBothLeaves, PartsAt, Permanent, family_at, no_member, node_values, only_base}
use Rattle.node_store.specs.ViewLaws.{Denotes-grown, Grown-trans, IsBelow-grown, IsBelow-inner, IsVariable-grown, Is-from, Is-grown, level-grown, top-grown, values_at-grown, values_at-is}
use Rattle.node_store.specs.TwoLaws.{AreTwo-grown}
use Rattle.node_store.specs.Work.{Adds, IsPart, IsWork, Moves, whole}
use Rattle.node_store.specs.WorkLaws.{IsPart-half, IsWork-due, Moves-made}
use Rattle.node_store.specs.declared.binary.Branch.{Branch}
use Rattle.node_store.specs.declared.operator.Task.{Task}
use Rattle.node_store.proofs.TwoParts.{base-without, PartsAt-grown}
use Rattle.zdd_ops.proofs.Members.{IsWithin, clash, two_ways}
use Rattle.zdd_ops.specs.Products.{CanPartBoth}
use Rattle.zdd_ops.specs.Quotients.{AreByIt, HasMember, IsSplitTask, LacksIt, QuotientAnswers, QuotientDue, QuotientSplits, quotient_at, quotient_key, quotient_work}
use Rattle.zdd_ops.specs.QuotientLasts.{QuotientDue-stays, quotient_of-grown, quotient_work-stays}
use Rattle.zdd_ops.proofs.ProductFamilies.{in_then}
use Rattle.zdd_ops.proofs.ProductLaws.{Is-within, base-within, base_at, empty_at}
use Rattle.zdd_ops.proofs.QuotientFamilies.{quotient-above, quotient-both, quotient-by_base, quotient-by_empty, quotient-lacks, quotient-of_empty, quotient-one}

-- a family of a store that is not empty has a member
pub member-in : (w : View) (e : Edge) → Is Zdd w e → (family_at w e ≡ empty → ⊥) → HasMember (family_at w e)
member-in w e d some = elim (two_ways (any_below (2 ^ w.elements) (family_at w e))) [
  | inl is ↦ (let x = true-any_below (2 ^ w.elements) (family_at w e) is in (x.0, x.1.1))
  | inr none ↦ absurd (some (everywhere (family_at w e) empty (λ a. elim (two_ways (family_at w e a)) [
    | inl here ↦ clash (any_below (2 ^ w.elements) (family_at w e)) (any_below-true (2 ^ w.elements) a (family_at w e) (Is-within w e (family_at w e) d a here) here) none
    | inr is ↦ is
  ])))
]

pub member-then : (w : View) (e : Edge) (v : ℕ) (hi lo : Edge) → IsInner Zdd w e (family_at w e) v hi lo → HasMember (family_at w hi)
member-then w e v hi lo i = member-in w hi i.splits.hi_is i.proper

pub member-inner : (w : View) (e : Edge) (v : ℕ) (hi lo : Edge) → IsInner Zdd w e (family_at w e) v hi lo → HasMember (family_at w e)
member-inner w e v hi lo i =
    let m = member-then w e v hi lo i in let s = i.splits in
    (set_bit m.0 (element_of v) true, ap (λ (f : ℕ → Bool). f (set_bit m.0 (element_of v) true)) s.is ∙ in_then (family_at w hi) (family_at w lo) (element_of v) m.0 (s.hi_below v i.in_range (omega arith)) m.1)

-- a leaf by its value
pub leaf-empty : (e : Edge) (f : ℕ → Bool) (x : ℤ) → IsLeafOf Zdd e f x → eqb (of_z w64 x) 0 ≡ true → f ≡ empty
leaf-empty _ _ _ no_member is = refl
leaf-empty _ _ _ only_base is = cc

pub leaf-member : (e : Edge) (f : ℕ → Bool) (x : ℤ) → IsLeafOf Zdd e f x → eqb (of_z w64 x) 0 ≡ false → HasMember f
leaf-member _ _ _ no_member is = cc
leaf-member _ _ _ only_base is = (0, refl)

-- how a divisor stands to an element
pub Lacks-inner : (w : View) (e : Edge) (v x : ℕ) (hi lo : Edge) → IsVariable Zdd w v → w.level v ≤ w.top e.index → IsInner Zdd w e (family_at w e) x hi lo → (x ≡ v → ⊥) → LacksIt w e v
Lacks-inner w e v x hi lo vn le i ne =
    let here = i.here in
    let apart : w.level v ≡ w.level x → ⊥ = λ s. ne (sym (i.alone v vn s)) in
    record { above = omega arith; below = IsBelow-inner Zdd v i (omega arith) }

pub Lacks-leaf : (w : View) (e : Edge) (v : ℕ) (x : ℤ) → w.level v < w.elements → IsLeaf Zdd w e (family_at w e) x → LacksIt w e v
Lacks-leaf w e v x within i = let here = i.here in record { above = omega arith; below = λ u un le. without e (family_at w e) x i.leaf (element_of u) }
  where
    without : (e : Edge) (f : ℕ → Bool) (x : ℤ) → IsLeafOf Zdd e f x → (u : ℕ) → IsWithout f u
    without _ _ _ no_member u = λ a has. refl
    without _ _ _ only_base u = base-without u

-- terminal cases
module _ (w : View) (f g : Edge) (p : Permanent w) (d : AreTwo Zdd w f g) where
  wg : IsWithin (2 ^ w.elements) (family_at w g)
  wg = Is-within w g (family_at w g) d.second

  pub by_empty : g.index ≡ empty_slot → Denotes Zdd w g (quotient_at w (family_at w f) (family_at w g))
  by_empty one = let is = empty_at w p g one in
      subst (Denotes Zdd w g) (is ∙ sym (quotient-by_empty (2 ^ w.elements) (family_at w f)) ∙ ap (quotient_at w (family_at w f)) (sym is)) d.second

  pub of_empty : f.index ≡ empty_slot → Denotes Zdd w f (quotient_at w (family_at w f) (family_at w g))
  of_empty one = let is = empty_at w p f one in
      subst (Denotes Zdd w f) (is ∙ sym (quotient-of_empty (2 ^ w.elements) (family_at w g) wg) ∙ ap (λ x. quotient_at w x (family_at w g)) (sym is)) d.first

  pub by_base : g.index ≡ base_slot → Denotes Zdd w f (quotient_at w (family_at w f) (family_at w g))
  by_base two = let is = base_at w p g d.second two in
      subst (Denotes Zdd w f) (sym (quotient-by_base (2 ^ w.elements) (family_at w f) (base-within w.elements)) ∙ ap (quotient_at w (family_at w f)) (sym is)) d.first

pub no_leaf : (w : View) (f g : Edge) → (g.index ≡ empty_slot → ⊥) → (g.index ≡ base_slot → ⊥) → NotBothLeaves Zdd w f g
no_leaf w f g not_empty not_base x y i j = leaf_is g (family_at w g) y j.leaf not_empty not_base
  where
    leaf_is : (e : Edge) (h : ℕ → Bool) (z : ℤ) → IsLeafOf Zdd e h z → (e.index ≡ empty_slot → ⊥) → (e.index ≡ base_slot → ⊥) → ⊥
    leaf_is _ _ _ no_member a b = a refl
    leaf_is _ _ _ only_base a b = b refl

-- the memo
module _ (w : View) (f g : Edge) (d : AreTwo Zdd w f g) where
  pub Quotient-hit : (e : Edge) → MemoHolds w (quotient_key f g) e → Denotes Zdd w e (quotient_at w (family_at w f) (family_at w g))
  unfolding FamilyHolds
  Quotient-hit e h = h.answer

  pub Quotient-kept : (e : Edge) → Denotes Zdd w e (quotient_at w (family_at w f) (family_at w g)) → MemoHolds w (quotient_key f g) e
  unfolding FamilyHolds
  Quotient-kept e h = record { f = d.first; g = d.second; answer = h }

  pub Quotient-key : IsKey w (quotient_key f g)
  Quotient-key = record { least = omega arith; most = omega arith; f = (Zdd, d.first); g = (Zdd, d.second); h = (Zdd, d.first) }

pub Quotient-keeps : (p q : Edge) (t : Task) (key : Key) (w : View) → key ≡ quotient_key t.f t.g → QuotientDue p q w t → Keeps (QuotientDue p q) QuotientAnswers t key w
Quotient-keeps p q t key w same d = rw same (record { is_key = Quotient-key w t.f t.g d.two; holds = λ e a. Quotient-kept w t.f t.g d.two e a })

pub Quotient-memo : (p q : Edge) (t : Task) (key : Key) (a w : View) (e : Edge) → Grown a w → key ≡ quotient_key t.f t.g → QuotientDue p q a t → MemoHolds w key e → QuotientAnswers w t e
Quotient-memo p q t key a w e m same d h = Quotient-hit w t.f t.g (AreTwo-grown Zdd m d.two) e (subst (λ k. MemoHolds w k e) same h)

-- a task that is split at an element
pub Split-has : (a u w : View) (t : Task) (v : ℕ) (b : Branch) (f1 f0 g1 g0 : Edge) → CanPartBoth a t v → Grown a u → Grown u w → PartsAt Zdd u t.f (family_at a t.f) v f1 f0
    → IsInner Zdd w t.g (family_at w t.g) v g1 g0 → b.task ≡ t → b.flip ≡ false → b.var ≡ v → b.hi.f ≡ f1 → b.hi.g ≡ g1 → b.lo.f ≡ f0 → b.lo.g ≡ g0 → IsSplitTask w t v b
Split-has a u w t v b f1 f0 g1 g0 can m n pf i task flip var ef1 eg1 ef0 eg0 =
    let pfw = PartsAt-grown Zdd n pf in record {
      task = task;
      flip = flip;
      var = var;
      splits = record { in_range = i.in_range; within = i.within; f = rw (ef1, ef0, values_at-grown Zdd (Grown-trans m n) can.f.edge) pfw.splits; g = inr (rw (eg1, eg0) i) };
      f1_top = rw ef1 pfw.hi_top;
      f0_top = rw ef0 pfw.lo_top;
      g1_top = rw eg1 i.hi_top;
      g0_top = rw eg0 i.lo_top;
    }

pub Split-lacks : (a u w : View) (t : Task) (v : ℕ) (b : Branch) (f1 f0 : Edge) → CanPartBoth a t v → Grown a u → Grown u w → PartsAt Zdd u t.f (family_at a t.f) v f1 f0
    → LacksIt w t.g v → b.task ≡ t → b.flip ≡ false → b.var ≡ v → b.hi.f ≡ f1 → b.hi.g ≡ t.g → b.lo.f ≡ f0 → b.lo.g ≡ t.g → IsSplitTask w t v b
Split-lacks a u w t v b f1 f0 can m n pf l task flip var ef1 eg1 ef0 eg0 =
    let pfw = PartsAt-grown Zdd n pf in record {
      task = task;
      flip = flip;
      var = var;
      splits = record {
        in_range = IsVariable-grown Zdd (Grown-trans m n) v can.f.in_range;
        within = let lv = level-grown (Grown-trans m n) v in let e = Grown-trans m n in let k = e.elements in let x = can.f.within in omega arith;
        f = rw (ef1, ef0, values_at-grown Zdd (Grown-trans m n) can.f.edge) pfw.splits;
        g = inl (l, record { hi_same = eg1; lo_same = eg0 });
      };
      f1_top = rw ef1 pfw.hi_top;
      f0_top = rw ef0 pfw.lo_top;
      g1_top = rw eg1 l.above;
      g0_top = rw eg0 l.above;
    }

-- the parts of the operands are parts of the roots
module _ (p q : Edge) (w : View) (t hi lo : Task) (v : ℕ) (due : QuotientDue p q w t) (s : QuotientSplits w t v hi lo) where
  f_half : (b : Bool) → IsPart Zdd w (family_at w p) (cond b (family_at w hi.f) (family_at w lo.f))
  f_half b = IsPart-half Zdd w v (family_at w p) (family_at w t.f) (family_at w hi.f) (family_at w lo.f) b s.in_range s.f.is s.f.hi_below s.f.lo_below due.f_part

  pub Quotient-hi_due : QuotientDue p q w hi
  Quotient-hi_due = elim s.g [
    | inl l ↦ record {
      permanent = due.permanent;
      roots = due.roots;
      two = record { first = s.f.hi_is; second = rw l.1.hi_same due.two.second };
      f_part = f_half true;
      g_part = rw l.1.hi_same due.g_part;
    }
    | inr i ↦ record {
      permanent = due.permanent;
      roots = due.roots;
      two = record { first = s.f.hi_is; second = i.splits.hi_is };
      f_part = f_half true;
      g_part = IsPart-half Zdd w v (family_at w q) (family_at w t.g) (family_at w hi.g) (family_at w lo.g) true s.in_range i.splits.is i.splits.hi_below i.splits.lo_below due.g_part;
    }
  ]

  pub Quotient-lo_due : QuotientDue p q w lo
  Quotient-lo_due = elim s.g [
    | inl l ↦ record {
      permanent = due.permanent;
      roots = due.roots;
      two = record { first = s.f.lo_is; second = rw l.1.lo_same due.two.second };
      f_part = f_half false;
      g_part = rw l.1.lo_same due.g_part;
    }
    | inr i ↦ record {
      permanent = due.permanent;
      roots = due.roots;
      two = record { first = s.f.lo_is; second = i.splits.lo_is };
      f_part = f_half false;
      g_part = IsPart-half Zdd w v (family_at w q) (family_at w t.g) (family_at w hi.g) (family_at w lo.g) false s.in_range i.splits.is i.splits.hi_below i.splits.lo_below due.g_part;
    }
  ]

pub Quotient-divided : (p q : Edge) (a w : View) (t : Task) (v : ℕ) (b : Branch) → Grown a w → QuotientDue p q a t → IsTop Zdd a t.f t.g v → IsSplitTask w t v b
    → Branches (QuotientDue p q) QuotientAnswers (λ _ _. ⊥) QuotientSplits (two_depth Zdd) w t b
Quotient-divided p q a w t v b m d top i =
    let due = QuotientDue-stays p q a w t m d in
    let n = m.elements in let lv = level-grown m v in let tf = top-grown Zdd m d.two.first in let tg = top-grown Zdd m d.two.second in
    let within = top.within in let af = top.above_f in let ag = top.above_g in
    let first : w.level v ≡ min (w.top t.f.index) (w.top t.g.index) = elim top.touches [ inl h ↦ omega arith | inr h ↦ omega arith ] in
    let x1 = i.f1_top in let x0 = i.f0_top in let y1 = i.g1_top in let y0 = i.g0_top in
    record {
      due = subst (QuotientDue p q w) (sym i.task) due;
      leads = record {
        gives = λ x e n a. rw i.flip (subst (λ u. QuotientAnswers x u e) i.task a);
        over = λ x n h. h;
      };
      splits = subst (λ u. QuotientSplits w u b.var b.hi b.lo) (sym i.task) (subst (λ x. QuotientSplits w t x b.hi b.lo) (sym i.var) i.splits);
      hi_due = Quotient-hi_due p q w t b.hi b.lo v due i.splits;
      lo_due = Quotient-lo_due p q w t b.hi b.lo v due i.splits;
      hi_less = omega arith;
      lo_less = omega arith;
    }

-- both halves of a task have their answers
module _ (p q : Edge) (a : View) (t hi_task lo_task : Task) (v : ℕ) (hi lo : Edge) (due : QuotientDue p q a t) (s : QuotientSplits a t v hi_task lo_task) (hi_is : QuotientAnswers a hi_task hi) (lo_is : QuotientAnswers a lo_task lo) where
  within_q : IsWithin (2 ^ a.elements) (family_at a t.g)
  within_q = Is-within a t.g (family_at a t.g) due.two.second

  lp1 : IsWithout (family_at a hi_task.f) (element_of v)
  lp1 = s.f.hi_below v s.in_range (omega arith)

  lp0 : IsWithout (family_at a lo_task.f) (element_of v)
  lp0 = s.f.lo_below v s.in_range (omega arith)

  -- the divisor lacks the element
  module _ (l : LacksIt a t.g v) (same : AreByIt t hi_task lo_task) where
    hi_value : quotient_at a (family_at a hi_task.f) (family_at a hi_task.g) ≡ quotient_at a (family_at a hi_task.f) (family_at a t.g)
    hi_value = ap (λ (e : Edge). quotient_at a (family_at a hi_task.f) (family_at a e)) same.hi_same

    lo_value : quotient_at a (family_at a lo_task.f) (family_at a lo_task.g) ≡ quotient_at a (family_at a lo_task.f) (family_at a t.g)
    lo_value = ap (λ (e : Edge). quotient_at a (family_at a lo_task.f) (family_at a e)) same.lo_same

    above_is : quotient_at a (family_at a t.f) (family_at a t.g) ≡ joined (element_of v) (quotient_at a (family_at a hi_task.f) (family_at a t.g)) (quotient_at a (family_at a lo_task.f) (family_at a t.g))
    above_is = ap (λ x. quotient_at a x (family_at a t.g)) s.f.is
        ∙ quotient-above (2 ^ a.elements) (element_of v) (family_at a hi_task.f) (family_at a lo_task.f) lp1 lp0 (family_at a t.g) (l.below v s.in_range (omega arith)) within_q

    below : (e : Edge) → IsBelow Zdd a v (family_at a e) → IsBelow Zdd a v (quotient_at a (family_at a e) (family_at a t.g))
    below e b u un le = quotient-lacks (2 ^ a.elements) (family_at a e) (family_at a t.g) (element_of u) within_q (b u un le)

    pub Above-can : CanMake Zdd a v hi lo
    Above-can = record {
      in_range = s.in_range;
      hi_is = Is-from Zdd hi_is;
      lo_is = Is-from Zdd lo_is;
      hi_below = subst (IsBelow Zdd a v) (sym (values_at-is Zdd hi_is ∙ hi_value)) (below hi_task.f s.f.hi_below);
      lo_below = subst (IsBelow Zdd a v) (sym (values_at-is Zdd lo_is ∙ lo_value)) (below lo_task.f s.f.lo_below);
    }

    pub Above-node : node_values Zdd a v hi lo ≡ quotient_at a (family_at a t.f) (family_at a t.g)
    Above-node = ap₂ (joined (element_of v)) (values_at-is Zdd hi_is ∙ hi_value) (values_at-is Zdd lo_is ∙ lo_value) ∙ sym above_is

  -- the divisor has it
  module _ (i : IsInner Zdd a t.g (family_at a t.g) v hi_task.g lo_task.g) where
    lq1 : IsWithout (family_at a hi_task.g) (element_of v)
    lq1 = i.splits.hi_below v s.in_range (omega arith)

    lq0 : IsWithout (family_at a lo_task.g) (element_of v)
    lq0 = i.splits.lo_below v s.in_range (omega arith)

    wq1 : IsWithin (2 ^ a.elements) (family_at a hi_task.g)
    wq1 = Is-within a hi_task.g (family_at a hi_task.g) i.splits.hi_is

    wq0 : IsWithin (2 ^ a.elements) (family_at a lo_task.g)
    wq0 = Is-within a lo_task.g (family_at a lo_task.g) i.splits.lo_is

    wq : IsWithin (2 ^ a.elements) (joined (element_of v) (family_at a hi_task.g) (family_at a lo_task.g))
    wq = subst (IsWithin (2 ^ a.elements)) i.splits.is within_q

    member : HasMember (family_at a hi_task.g)
    member = member-then a t.g v hi_task.g lo_task.g i

    into : quotient_at a (family_at a t.f) (family_at a t.g)
        ≡ quotient_at a (joined (element_of v) (family_at a hi_task.f) (family_at a lo_task.f)) (joined (element_of v) (family_at a hi_task.g) (family_at a lo_task.g))
    into = ap₂ (quotient_at a) s.f.is i.splits.is

    pub One-value : family_at a lo_task.g ≡ empty → family_at a hi ≡ quotient_at a (family_at a t.f) (family_at a t.g)
    One-value none = values_at-is Zdd hi_is ∙ sym (into ∙ quotient-one (2 ^ a.elements) (element_of v) (family_at a hi_task.f) (family_at a lo_task.f) lp1 lp0
        (family_at a hi_task.g) (family_at a lo_task.g) lq1 lq0 wq1 wq0 wq member none)

    pub Both-value : HasMember (family_at a lo_task.g) → meet (family_at a hi) (family_at a lo) ≡ quotient_at a (family_at a t.f) (family_at a t.g)
    Both-value some = rw (values_at-is Zdd hi_is, values_at-is Zdd lo_is) (sym (into ∙ quotient-both (2 ^ a.elements) (element_of v) (family_at a hi_task.f) (family_at a lo_task.f) lp1 lp0
        (family_at a hi_task.g) (family_at a lo_task.g) lq1 lq0 wq1 wq0 wq member some))

  pub Joined-two : AreTwo Zdd a hi lo
  Joined-two = record { first = Is-from Zdd hi_is; second = Is-from Zdd lo_is }

  pub Joined-answer : (w : View) (e : Edge) (f : ℕ → Bool) → Grown a w → f ≡ quotient_at a (family_at a t.f) (family_at a t.g) → Denotes Zdd w e f → QuotientAnswers w t e
  Joined-answer w e f m same d = subst (Denotes Zdd w e) (same ∙ sym (quotient_of-grown a w m t.f t.g due.two)) d

  own_work : quotient_work p q a (ZddFamily (quotient_at a (family_at a t.f) (family_at a t.g)))
  own_work = (
    quotient_at a (family_at a t.f) (family_at a t.g),
    refl,
    record { first = family_at a t.f; second = family_at a t.g; f_part = due.f_part; g_part = due.g_part; is = refl },
  )

  pub Made-moved : (w : View) (e : Edge) → Grown a w → ((s : ℕ) → w.made s ≡ true → (a.made s ≡ true) ⊎ (e.index ≡ s)) → Denotes Zdd w e (quotient_at a (family_at a t.f) (family_at a t.g))
      → Moves (λ u. AreTwo Zdd u p q) (quotient_work p q) a w
  Made-moved w e m made d = Moves-made Zdd (λ u. AreTwo Zdd u p q) (quotient_work p q) a w e (quotient_at a (family_at a t.f) (family_at a t.g)) (quotient_at a (family_at a t.f) (family_at a t.g)) m made
      (λ roots. quotient_work-stays p q a w (ZddFamily (quotient_at a (family_at a t.f) (family_at a t.g))) m roots own_work) whole d

  pub Made-due : (w : View) → Grown a w → w.due ≡ Some (ZddFamily (quotient_at a (family_at a t.f) (family_at a t.g))) → IsWork w (quotient_work p q w) w.due
  Made-due w m is = IsWork-due Zdd w (quotient_work p q w) (quotient_at a (family_at a t.f) (family_at a t.g)) (quotient_at a (family_at a t.f) (family_at a t.g))
      (quotient_work-stays p q a w (ZddFamily (quotient_at a (family_at a t.f) (family_at a t.g))) m due.roots own_work) whole is

  -- what a meet within stores or wants
  pub Through : (u w : View) (o : Option Denoted) → Grown a u → Grown u w → meet (family_at a hi) (family_at a lo) ≡ quotient_at a (family_at a t.f) (family_at a t.g)
      → IsWork w (value_of_two Zdd (λ x y. x && y) hi lo u) o → IsWork w (quotient_work p q w) o
  Through u w o m n same i = record {
    kind = i.kind;
    root = i.root;
    part = i.part;
    asked = subst (quotient_work p q w) (sym (i.asked ∙ value)) (quotient_work-stays p q a w (ZddFamily (quotient_at a (family_at a t.f) (family_at a t.g))) (Grown-trans m n) due.roots own_work);
    is_part = i.is_part;
    is = i.is;
  }
    where
      value : ZddFamily (meet (family_at u hi) (family_at u lo)) ≡ ZddFamily (quotient_at a (family_at a t.f) (family_at a t.g))
      value = ap ZddFamily (ap₂ meet (values_at-grown Zdd m (Is-from Zdd hi_is)) (values_at-grown Zdd m (Is-from Zdd lo_is)) ∙ same)

  pub Meet-moved : (u w : View) → Kept a u → Grown u w → meet (family_at a hi) (family_at a lo) ≡ quotient_at a (family_at a t.f) (family_at a t.g)
      → Adds (value_of_two Zdd (λ x y. x && y) hi lo u) u w → Moves (λ x. AreTwo Zdd x p q) (quotient_work p q) a w
  Meet-moved u w k n same adds = record {
    grown = Grown-trans k.grown n;
    work = λ roots s h. elim (adds s h) [
      | inl old ↦ inl (let made = ap (λ (b : ℕ → Bool). b s) k.made in sym made ∙ old)
      | inr i ↦ inr (Through u w (w.content s) k.grown n same i)
    ];
  }

  -- how the divisor stands, found again
  pub found-lacks : (u : View) → Grown a u → LacksIt u t.g v → LacksIt a t.g v × AreByIt t hi_task lo_task
  found-lacks u m l = elim s.g [
    | inl x ↦ x
    | inr i ↦ (let lv = level-grown m v in let tg = top-grown Zdd m due.two.second in let here = i.here in let x = l.above in absurd (omega arith))
  ]

  pub found-has : (u : View) (g1 g0 : Edge) → Grown a u → IsInner Zdd u t.g (family_at u t.g) v g1 g0 → IsInner Zdd a t.g (family_at a t.g) v hi_task.g lo_task.g
  found-has u g1 g0 m j = elim s.g [
    | inl x ↦ (let lv = level-grown m v in let tg = top-grown Zdd m due.two.second in let here = j.here in let y = x.0.above in absurd (omega arith))
    | inr i ↦ i
  ]

  -- the part without the element is the same
  pub same-without : (u : View) (g1 g0 : Edge) → Grown a u → IsInner Zdd u t.g (family_at u t.g) v g1 g0 → family_at u g0 ≡ family_at a lo_task.g
  same-without u g1 g0 m j =
      let i = found-has u g1 g0 m j in
      sym (subset0-joined (family_at u g1) (family_at u g0) (element_of v) (j.splits.lo_below v j.in_range (omega arith)))
      ∙ ap (λ f. subset0 f (element_of v)) (sym j.splits.is ∙ values_at-grown Zdd m due.two.second ∙ i.splits.is)
      ∙ subset0-joined (family_at a hi_task.g) (family_at a lo_task.g) (element_of v) (i.splits.lo_below v s.in_range (omega arith))

  pub Divisor-can : CanPart Zdd a t.g v
  Divisor-can = record {
    edge = due.two.second;
    in_range = s.in_range;
    above = elim s.g [ inl l ↦ (let x = l.0.above in omega arith) | inr i ↦ (let x = i.here in omega arith) ];
    within = s.within;
  }

  -- a node that was made after looking at the divisor
  pub Above-can_later : (u : View) → Kept a u → LacksIt u t.g v → CanMake Zdd u v hi lo
  Above-can_later u k l =
      let m = k.grown in let x = found-lacks u m l in let can = Above-can x.0 x.1 in record {
        in_range = IsVariable-grown Zdd m v can.in_range;
        hi_is = Is-grown Zdd m can.hi_is;
        lo_is = Is-grown Zdd m can.lo_is;
        hi_below = rw (values_at-grown Zdd m can.hi_is) (IsBelow-grown Zdd v (family_at a hi) m can.hi_below);
        lo_below = rw (values_at-grown Zdd m can.lo_is) (IsBelow-grown Zdd v (family_at a lo) m can.lo_below);
      }

  pub Above-node_later : (u : View) → Kept a u → LacksIt u t.g v → node_values Zdd u v hi lo ≡ quotient_at a (family_at a t.f) (family_at a t.g)
  Above-node_later u k l =
      let m = k.grown in let x = found-lacks u m l in
      ap₂ (joined (element_of v)) (values_at-grown Zdd m (Is-from Zdd hi_is)) (values_at-grown Zdd m (Is-from Zdd lo_is)) ∙ Above-node x.0 x.1

  pub Made-moved_later : (u w : View) (e : Edge) → Kept a u → Grown u w → ((s : ℕ) → w.made s ≡ true → (u.made s ≡ true) ⊎ (e.index ≡ s)) → Denotes Zdd w e (quotient_at a (family_at a t.f) (family_at a t.g))
      → Moves (λ u. AreTwo Zdd u p q) (quotient_work p q) a w
  Made-moved_later u w e k m made d = Made-moved w e (Grown-trans k.grown m) (λ s h. elim (made s h) [ inl old ↦ inl (let same = ap (λ (b : ℕ → Bool). b s) k.made in sym same ∙ old) | inr new ↦ inr new ]) d

  -- the part with the element alone
  pub One-answer : (u w : View) (g1 g0 : Edge) → Kept a u → Kept u w → IsInner Zdd u t.g (family_at u t.g) v g1 g0 → family_at u g0 ≡ empty → QuotientAnswers w t hi
  One-answer u w g1 g0 k l j none =
      Joined-answer w hi (family_at a hi) (Grown-trans k.grown l.grown) (One-value (found-has u g1 g0 k.grown j) (sym (same-without u g1 g0 k.grown j) ∙ none))
      (Denotes-grown Zdd (Grown-trans k.grown l.grown) (Is-from Zdd hi_is))

  -- both parts
  pub Both-meet : (u : View) (g1 g0 : Edge) → Kept a u → IsInner Zdd u t.g (family_at u t.g) v g1 g0 → HasMember (family_at u g0) → meet (family_at a hi) (family_at a lo) ≡ quotient_at a (family_at a t.f) (family_at a t.g)
  Both-meet u g1 g0 k j some = Both-value (found-has u g1 g0 k.grown j) (subst HasMember (same-without u g1 g0 k.grown j) some)

  pub Both-answer : (u w : View) (e : Edge) → Kept a u → Grown u w → meet (family_at a hi) (family_at a lo) ≡ quotient_at a (family_at a t.f) (family_at a t.g) → Denotes Zdd w e (meet (family_at u hi) (family_at u lo)) → QuotientAnswers w t e
  Both-answer u w e k m same d =
      Joined-answer w e (meet (family_at u hi) (family_at u lo)) (Grown-trans k.grown m)
      (ap₂ meet (values_at-grown Zdd k.grown (Is-from Zdd hi_is)) (values_at-grown Zdd k.grown (Is-from Zdd lo_is)) ∙ same) d

  pub Joined-two_later : (u : View) → Kept a u → AreTwo Zdd u hi lo
  Joined-two_later u k = AreTwo-grown Zdd k.grown Joined-two
