-- Products of families, step by step.
use Rattle.edge_bits.specs.Permanent.{base_slot, empty_slot, first_element}
use Rattle.std.proofs.Common.{◌≡◌, ◌≢◌, ℕ, ◌+◌, ◌-◌, ◌^◌, ◌<◌, ◌≤◌, Bool, true, false, cond, Some, ℤ, inl, inr, not, ◌&&◌, refl, ap, ap₂, sym, ◌∙◌, subst, arith}
use Rattle.std.proofs.lemmas.Bool.{cases_eq, eqb-true}
use Rattle.std.proofs.lemmas.Nat.{pow_pos}
use Rattle.edge_bits.specs.Words.{digit}
use Rattle.edge_bits.specs.Assignments.{bit, set_bit}
use Rattle.edge_bits.specs.Reading.{element_of}
use Rattle.edge_bits.proofs.AssignmentLemmas.{below_from_bits, digit-bit}
use Rattle.edge_bits.specs.declared.edges.Edge.{Edge}
use Rattle.edge_bits.specs.declared.edges.Kind.TheVariants.{Zdd}
use Rattle.function_laws.specs.Families.{IsWithout, base, empty, joined, subset1, union}
use Rattle.function_laws.specs.Kinds.{ZddFamily, flipped, part_at, values_of}
use Rattle.node_store.specs.Two.{two_depth}
use Rattle.node_store.specs.Views.{View, AreTwo, CanPart, Denotes, Grown, Is, IsBelow, IsLeafOf, IsVariable, NotBothLeaves, PartsAt, Permanent, Splits, family_at, no_member, only_base}
use Rattle.node_store.specs.ViewLaws.{Apart-variables, IsVariable-grown, Is-grown, level-grown, top-grown}
use Rattle.node_store.specs.declared.operator.Task.{Task}
use Rattle.zdd_ops.specs.Elementwise.{subset1-lacks}
use Rattle.node_store.specs.KindLaws.{Apart, Lacks-joined, part-joined}
use Rattle.node_store.specs.Work.{IsPart, cut, whole}
use Rattle.zdd_ops.proofs.Members.{IsWithin, clash, two_ways}
use Rattle.zdd_ops.specs.Products.{IsProductOfParts, IsQuarter, ProductDue, ProductSplits, product_at, product_work, quarter}
use Rattle.zdd_ops.proofs.ProductFamilies.{product-base, product-comm, product-empty, product-joined, product-lacks, product-then}

-- the members of a store's family are combinations of its elements
pub Is-within : (w : View) (e : Edge) (f : ℕ → Bool) → Denotes Zdd w e f → IsWithin (2 ^ w.elements) f
Is-within w e f d a h = below_from_bits w.elements a (λ i from. elim (two_ways (bit a i)) [
  | inl has ↦ (let same : element_of (first_element + i) ≡ i = omega arith in
      clash (f a) h (d.beyond (first_element + i) (omega arith) a (subst (λ x. bit a x ≡ true) (sym same) has)))
  | inr lacks ↦ sym (digit-bit a i) ∙ ap digit lacks
])

pub base-within : (n : ℕ) → IsWithin (2 ^ n) base
base-within n a h = let none = eqb-true a 0 h in subst (λ x. x < 2 ^ n) (sym none) (pow_pos n)

-- the slots of Empty and of Base
pub empty_at : (w : View) → Permanent w → (e : Edge) → e.index ≡ empty_slot → family_at w e ≡ empty
empty_at w p e one = ap (λ s. values_of Zdd (flipped e.complement (w.content s))) one ∙ ap (λ o. values_of Zdd (flipped e.complement o)) p.empty ∙ by_complement e.complement
  where
    by_complement : (c : Bool) → values_of Zdd (flipped c (Some (ZddFamily empty))) ≡ empty
    by_complement true = refl
    by_complement false = refl

pub base_at : (w : View) → Permanent w → (e : Edge) → Is Zdd w e → e.index ≡ base_slot → family_at w e ≡ base
base_at w p e d two = by_complement e.complement (ap (λ s. flipped e.complement (w.content s)) two ∙ ap (flipped e.complement) p.base) d.is
  where
    by_complement : (c : Bool) → flipped e.complement (w.content e.index) ≡ flipped c (Some (ZddFamily base)) → flipped e.complement (w.content e.index) ≡ Some (ZddFamily (family_at w e)) → family_at w e ≡ base
    by_complement true is here = let never = sym is ∙ here in cc
    by_complement false is here = ap (values_of Zdd) is

module _ (w : View) (f g : Edge) (p : Permanent w) (d : AreTwo Zdd w f g) where
  wf : IsWithin (2 ^ w.elements) (family_at w f)
  wf = Is-within w f (family_at w f) d.first

  wg : IsWithin (2 ^ w.elements) (family_at w g)
  wg = Is-within w g (family_at w g) d.second

  pub Product-comm : product_at w (family_at w f) (family_at w g) ≡ product_at w (family_at w g) (family_at w f)
  Product-comm = product-comm (2 ^ w.elements) (family_at w f) (family_at w g) wf wg

  pub first_empty : f.index ≡ empty_slot → Denotes Zdd w f (product_at w (family_at w f) (family_at w g))
  first_empty one = let is = empty_at w p f one in
      subst (λ x. Denotes Zdd w f x) (is ∙ sym (product-empty (2 ^ w.elements) (family_at w g)) ∙ ap (λ x. product_at w x (family_at w g)) (sym is)) d.first

  pub second_empty : g.index ≡ empty_slot → Denotes Zdd w g (product_at w (family_at w f) (family_at w g))
  second_empty one = let is = empty_at w p g one in
      subst (λ x. Denotes Zdd w g x) (is ∙ sym (product-empty (2 ^ w.elements) (family_at w f)) ∙ ap (λ x. product_at w x (family_at w f)) (sym is) ∙ sym Product-comm) d.second

  pub first_base : f.index ≡ base_slot → Denotes Zdd w g (product_at w (family_at w f) (family_at w g))
  first_base two = let is = base_at w p f d.first two in
      subst (λ x. Denotes Zdd w g x) (sym (product-base (2 ^ w.elements) (family_at w g) (base-within w.elements) wg) ∙ ap (λ x. product_at w x (family_at w g)) (sym is)) d.second

  pub second_base : g.index ≡ base_slot → Denotes Zdd w f (product_at w (family_at w f) (family_at w g))
  second_base two = let is = base_at w p g d.second two in
      subst (λ x. Denotes Zdd w f x) (sym (product-base (2 ^ w.elements) (family_at w f) (base-within w.elements) wf) ∙ ap (λ x. product_at w x (family_at w f)) (sym is) ∙ sym Product-comm) d.first

pub no_leaf : (w : View) (f g : Edge) → (f.index ≡ empty_slot → ⊥) → (f.index ≡ base_slot → ⊥) → NotBothLeaves Zdd w f g
no_leaf w f g not_empty not_base x y i j = leaf_is f (family_at w f) x i.leaf not_empty not_base
  where
    leaf_is : (e : Edge) (h : ℕ → Bool) (z : ℤ) → IsLeafOf Zdd e h z → (e.index ≡ empty_slot → ⊥) → (e.index ≡ base_slot → ⊥) → ⊥
    leaf_is _ _ _ no_member a b = a refl
    leaf_is _ _ _ only_base a b = b refl

pub CanPart-grown : (a b : View) (e : Edge) (v : ℕ) → Grown a b → CanPart Zdd a e v → CanPart Zdd b e v
CanPart-grown a b e v m c =
    let lv = level-grown m v in let te = top-grown Zdd m c.edge in let n = m.elements in let x = c.above in let y = c.within in
    record { edge = Is-grown Zdd m c.edge; in_range = IsVariable-grown Zdd m v c.in_range; above = omega arith; within = omega arith }

-- the product of two families by their parts at an element
module _ (w : View) (v : ℕ) (p q : ℕ → Bool) (f1 f0 g1 g0 : Edge) (vn : IsVariable Zdd w v) (s : Splits Zdd w v p f1 f0) (r : Splits Zdd w v q g1 g0) (wp : IsWithin (2 ^ w.elements) p) (wq : IsWithin (2 ^ w.elements) q) where
  lp1 : IsWithout (family_at w f1) (element_of v)
  lp1 = s.hi_below v vn (omega arith)

  lp0 : IsWithout (family_at w f0) (element_of v)
  lp0 = s.lo_below v vn (omega arith)

  lq1 : IsWithout (family_at w g1) (element_of v)
  lq1 = r.hi_below v vn (omega arith)

  lq0 : IsWithout (family_at w g0) (element_of v)
  lq0 = r.lo_below v vn (omega arith)

  wj : IsWithin (2 ^ w.elements) (joined (element_of v) (family_at w f1) (family_at w f0))
  wj = subst (IsWithin (2 ^ w.elements)) s.is wp

  wk : IsWithin (2 ^ w.elements) (joined (element_of v) (family_at w g1) (family_at w g0))
  wk = subst (IsWithin (2 ^ w.elements)) r.is wq

  in1 : IsWithin (2 ^ w.elements) (family_at w f1)
  in1 = Is-within w f1 (family_at w f1) s.hi_is

  in0 : IsWithin (2 ^ w.elements) (family_at w f0)
  in0 = Is-within w f0 (family_at w f0) s.lo_is

  out1 : IsWithin (2 ^ w.elements) (family_at w g1)
  out1 = Is-within w g1 (family_at w g1) r.hi_is

  out0 : IsWithin (2 ^ w.elements) (family_at w g0)
  out0 = Is-within w g0 (family_at w g0) r.lo_is

  pub whole_law : product_at w p q ≡ joined (element_of v) (subset1 (product_at w p q) (element_of v)) (product_at w (family_at w f0) (family_at w g0))
  whole_law = subst (λ x. product_at w x q ≡ joined (element_of v) (subset1 (product_at w x q) (element_of v)) (product_at w (family_at w f0) (family_at w g0))) (sym s.is)
      (subst (λ y. product_at w (joined (element_of v) (family_at w f1) (family_at w f0)) y ≡ joined (element_of v) (subset1 (product_at w (joined (element_of v) (family_at w f1) (family_at w f0)) y) (element_of v)) (product_at w (family_at w f0) (family_at w g0))) (sym r.is)
      (product-joined (2 ^ w.elements) (element_of v) (family_at w f1) (family_at w f0) (family_at w g1) (family_at w g0) lp1 lp0 lq1 lq0 in1 in0 out1 out0 wj wk))

  pub then_law : subset1 (product_at w p q) (element_of v)
      ≡ union (union (product_at w (family_at w f1) (family_at w g1)) (product_at w (family_at w f1) (family_at w g0))) (product_at w (family_at w f0) (family_at w g1))
  then_law =
      ap₂ (λ x y. subset1 (product_at w x y) (element_of v)) s.is r.is
      ∙ product-then (2 ^ w.elements) (element_of v) (family_at w f1) (family_at w f0) (family_at w g1) (family_at w g0) lp1 lp0 lq1 lq0 in1 in0 out1 out0 wj wk

  -- what stands above, or beside, is in neither, nor in their product
  pub lacks_other : (h l : Edge) (x : ℕ → Bool) → Splits Zdd w v x h l → (u : ℕ) → IsVariable Zdd w u → u ≢ v → w.level u ≤ w.level v → IsWithout x (element_of u)
  lacks_other h l x split u un ne le =
      let apart : Apart Zdd u v = Apart-variables Zdd w u v un vn ne in
      subst (λ y. IsWithout y (element_of u)) (sym split.is) (Lacks-joined Zdd u v (family_at w h) (family_at w l) apart (split.hi_below u un le) (split.lo_below u un le))

  product_other : (u : ℕ) → IsVariable Zdd w u → u ≢ v → w.level u ≤ w.level v → IsWithout (product_at w p q) (element_of u)
  product_other u un ne le = product-lacks (2 ^ w.elements) p q (element_of u) (lacks_other f1 f0 p s u un ne le) (lacks_other g1 g0 q r u un ne le)

  pub product_above : (u : ℕ) → IsVariable Zdd w u → w.level u < w.level v → IsWithout (product_at w p q) (element_of u)
  product_above u un lt = product_other u un (λ e. let same = ap w.level e in omega arith) (omega arith)

  own_lacks : (x : ℕ → Bool) (e : ℕ) → IsWithout (subset1 x e) e
  own_lacks x e a has = ap (λ b. not b && x (set_bit a e true)) has

  pub then_below : IsBelow Zdd w v (subset1 (product_at w p q) (element_of v))
  then_below u un le = elim (cases_eq u v) [
    | inl is ↦ subst (λ x. IsWithout (subset1 (product_at w p q) (element_of v)) (element_of x)) (sym is) (own_lacks (product_at w p q) (element_of v))
    | inr ne ↦ subset1-lacks (product_at w p q) (element_of v) (element_of u) (Apart-variables Zdd w u v un vn ne) (product_other u un ne le)
  ]

  pub else_below : IsBelow Zdd w v (product_at w (family_at w f0) (family_at w g0))
  else_below u un le = product-lacks (2 ^ w.elements) (family_at w f0) (family_at w g0) (element_of u) (s.lo_below u un le) (r.lo_below u un le)

-- a task whose families are split at an element
module _ (w : View) (t : Task) (v : ℕ) (d : AreTwo Zdd w t.f t.g) (s : ProductSplits w t v) where
  own : IsVariable Zdd w v
  own = s.top.in_range

  f_within : IsWithin (2 ^ w.elements) (family_at w t.f)
  f_within = Is-within w t.f (family_at w t.f) d.first

  g_within : IsWithin (2 ^ w.elements) (family_at w t.g)
  g_within = Is-within w t.g (family_at w t.g) d.second

  f_is : (b : Bool) → part_at Zdd (family_at w t.f) v b ≡ cond b (family_at w s.f1) (family_at w s.f0)
  f_is b = ap (λ x. part_at Zdd x v b) s.f.is ∙ part-joined Zdd v (family_at w s.f1) (family_at w s.f0) b (s.f.hi_below v own (omega arith)) (s.f.lo_below v own (omega arith))

  g_is : (b : Bool) → part_at Zdd (family_at w t.g) v b ≡ cond b (family_at w s.g1) (family_at w s.g0)
  g_is b = ap (λ x. part_at Zdd x v b) s.g.is ∙ part-joined Zdd v (family_at w s.g1) (family_at w s.g0) b (s.g.hi_below v own (omega arith)) (s.g.lo_below v own (omega arith))

  quarter_is : (b c : Bool) → quarter w t v b c ≡ product_at w (cond b (family_at w s.f1) (family_at w s.f0)) (cond c (family_at w s.g1) (family_at w s.g0))
  quarter_is b c = ap₂ (product_at w) (f_is b) (g_is c)

  -- the members with the element, and those without it
  pub with_is : union (union (quarter w t v true true) (quarter w t v true false)) (quarter w t v false true) ≡ subset1 (product_at w (family_at w t.f) (family_at w t.g)) (element_of v)
  with_is = ap₂ union (ap₂ union (quarter_is true true) (quarter_is true false)) (quarter_is false true)
      ∙ sym (then_law w v (family_at w t.f) (family_at w t.g) s.f1 s.f0 s.g1 s.g0 own s.f s.g f_within g_within)

  pub whole_is : joined (element_of v) (subset1 (product_at w (family_at w t.f) (family_at w t.g)) (element_of v)) (quarter w t v false false) ≡ product_at w (family_at w t.f) (family_at w t.g)
  whole_is = ap (joined (element_of v) (subset1 (product_at w (family_at w t.f) (family_at w t.g)) (element_of v))) (quarter_is false false)
      ∙ sym (whole_law w v (family_at w t.f) (family_at w t.g) s.f1 s.f0 s.g1 s.g0 own s.f s.g f_within g_within)

  pub with_below : IsBelow Zdd w v (subset1 (product_at w (family_at w t.f) (family_at w t.g)) (element_of v))
  with_below = then_below w v (family_at w t.f) (family_at w t.g) s.f1 s.f0 s.g1 s.g0 own s.f s.g f_within g_within

  pub without_below : IsBelow Zdd w v (quarter w t v false false)
  without_below = subst (IsBelow Zdd w v) (sym (quarter_is false false)) (else_below w v (family_at w t.f) (family_at w t.g) s.f1 s.f0 s.g1 s.g0 own s.f s.g f_within g_within)

  pub with_part : IsPart Zdd w (product_at w (family_at w t.f) (family_at w t.g)) (subset1 (product_at w (family_at w t.f) (family_at w t.g)) (element_of v))
  with_part = cut (product_at w (family_at w t.f) (family_at w t.g)) v true own (product_above w v (family_at w t.f) (family_at w t.g) s.f1 s.f0 s.g1 s.g0 own s.f s.g f_within g_within) whole

  -- the parts of the task's families are parts of the call's
  module _ (p q : Edge) (due : ProductDue p q w t) where
    f_part : (b : Bool) → IsPart Zdd w (family_at w p) (part_at Zdd (family_at w t.f) v b)
    f_part b = cut (family_at w t.f) v b own
        (λ u un lt. lacks_other w v (family_at w t.f) (family_at w t.g) s.f1 s.f0 s.g1 s.g0 own s.f s.g f_within g_within s.f1 s.f0 (family_at w t.f) s.f u un
        (λ e. let same = ap w.level e in omega arith) (omega arith)) due.f_part

    g_part : (b : Bool) → IsPart Zdd w (family_at w q) (part_at Zdd (family_at w t.g) v b)
    g_part b = cut (family_at w t.g) v b own
        (λ u un lt. lacks_other w v (family_at w t.f) (family_at w t.g) s.f1 s.f0 s.g1 s.g0 own s.f s.g f_within g_within s.g1 s.g0 (family_at w t.g) s.g u un
        (λ e. let same = ap w.level e in omega arith) (omega arith)) due.g_part

    quarter_of_parts : (b c : Bool) → IsProductOfParts p q w (quarter w t v b c)
    quarter_of_parts b c = record { first = part_at Zdd (family_at w t.f) v b; second = part_at Zdd (family_at w t.g) v c; f_part = f_part b; g_part = g_part c; is = refl }

    pub first_work : product_work p q w (ZddFamily (union (quarter w t v true true) (quarter w t v true false)))
    first_work = (
      union (quarter w t v true true) (quarter w t v true false),
      refl,
      inr (record {
        one = quarter w t v true true;
        other = quarter w t v true false;
        one_is = quarter_of_parts true true;
        other_is = quarter_of_parts true false;
        is = refl;
      }),
    )

    pub whole_work : product_work p q w (ZddFamily (product_at w (family_at w t.f) (family_at w t.g)))
    whole_work = (
      product_at w (family_at w t.f) (family_at w t.g),
      refl,
      inl (record { first = family_at w t.f; second = family_at w t.g; f_part = due.f_part; g_part = due.g_part; is = refl }),
    )

    f_edge : (b : Bool) (e : Edge) → e ≡ cond b s.f1 s.f0 → family_at w e ≡ part_at Zdd (family_at w t.f) v b
    f_edge true e is = ap (family_at w) is ∙ sym (f_is true)
    f_edge false e is = ap (family_at w) is ∙ sym (f_is false)

    g_edge : (b : Bool) (e : Edge) → e ≡ cond b s.g1 s.g0 → family_at w e ≡ part_at Zdd (family_at w t.g) v b
    g_edge true e is = ap (family_at w) is ∙ sym (g_is true)
    g_edge false e is = ap (family_at w) is ∙ sym (g_is false)

    pub Quarter-is : PartsAt Zdd w t.f (family_at w t.f) v s.f1 s.f0 → PartsAt Zdd w t.g (family_at w t.g) v s.g1 s.g0 → (b c : Bool) (u : Task) → u.f ≡ cond b s.f1 s.f0 → u.g ≡ cond c s.g1 s.g0
        → IsQuarter p q w t v b c u
    Quarter-is pf pg b c u uf ug = record {
      due = record {
        permanent = due.permanent;
        roots = due.roots;
        two = record { first = rw uf (either b s.f1 s.f0 s.f.hi_is s.f.lo_is); second = rw ug (either c s.g1 s.g0 s.g.hi_is s.g.lo_is) };
        f_part = subst (IsPart Zdd w (family_at w p)) (sym (f_edge b u.f uf)) (f_part b);
        g_part = subst (IsPart Zdd w (family_at w q)) (sym (g_edge c u.g ug)) (g_part c);
      };
      less =
          let x = lower b s.f1 s.f0 u.f uf pf.hi_top pf.lo_top in let y = lower c s.g1 s.g0 u.g ug pg.hi_top pg.lo_top in
          let n = s.top.within in let af = s.top.above_f in let ag = s.top.above_g in
          let here : two_depth Zdd w t ≡ w.elements - w.level v = elim s.top.touches [ inl h ↦ omega arith | inr h ↦ omega arith ] in omega arith;
      f = f_edge b u.f uf;
      g = g_edge c u.g ug;
    }
      where
        either : (b : Bool) (hi lo : Edge) → Is Zdd w hi → Is Zdd w lo → Is Zdd w (cond b hi lo)
        either true hi lo h l = h
        either false hi lo h l = l

        lower : (b : Bool) (hi lo e : Edge) → e ≡ cond b hi lo → w.level v < w.top hi.index → w.level v < w.top lo.index → w.level v < w.top e.index
        lower true hi lo e is h l = rw is h
        lower false hi lo e is h l = rw is l
