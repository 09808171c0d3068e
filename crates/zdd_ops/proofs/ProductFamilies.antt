-- Products of families, part by part.
use Rattle.std.proofs.Common.{◌≡◌, ℕ, Bool, true, false, not, cond, ◌||◌, ◌⊎◌, inl, inr, refl, sym, ap, ap₂, ◌∙◌, subst}
use Rattle.std.specs.Prelude.{bit_or}
use Rattle.std.proofs.lemmas.Bool.{eqb-true}
use Rattle.edge_bits.specs.Assignments.{bit, set_bit}
use Rattle.edge_bits.proofs.AssignmentLemmas.{bit-set_same, set_bit-set_same}
use Rattle.function_laws.specs.Families.{IsWithout, base, empty, joined, product, subset0, subset1, union}
use Rattle.function_laws.proofs.FamilyLemmas.{joined-subsets}
use Rattle.function_laws.proofs.ValueLemmas.{everywhere}
use Rattle.zdd_ops.proofs.Combinations.{bit-or}
use Rattle.zdd_ops.proofs.Members.{IsProduct-unique, IsWithin, and_both, and_left, and_right, clash, or_comm, or_set, own, product-is, product-unions, same_truth, two_ways, unions-product, zero_or}

-- members of a node's family
pub has_not : (p : ℕ → Bool) (e b : ℕ) → IsWithout p e → p b ≡ true → bit b e ≡ false
has_not p e b without h = elim (two_ways (bit b e)) [ inl has ↦ clash (p b) h (without b has) | inr lacks ↦ lacks ]

pub in_then : (p q : ℕ → Bool) (e b : ℕ) → IsWithout p e → p b ≡ true → joined e p q (set_bit b e true) ≡ true
in_then p q e b without h =
    ap (λ x. cond x (p (set_bit (set_bit b e true) e false)) (q (set_bit b e true))) (bit-set_same b e true)
    ∙ ap p (set_bit-set_same b e true false ∙ own b e false (has_not p e b without h)) ∙ h

pub in_else : (p q : ℕ → Bool) (e b : ℕ) → IsWithout q e → q b ≡ true → joined e p q b ≡ true
in_else p q e b without h = ap (λ x. cond x (p (set_bit b e false)) (q b)) (has_not q e b without h) ∙ h

pub from_then : (p q : ℕ → Bool) (e b : ℕ) → joined e p q b ≡ true → bit b e ≡ true → p (set_bit b e false) ≡ true
from_then p q e b h has = sym (ap (λ x. cond x (p (set_bit b e false)) (q b)) has) ∙ h

pub from_else : (p q : ℕ → Bool) (e b : ℕ) → joined e p q b ≡ true → bit b e ≡ false → q b ≡ true
from_else p q e b h lacks = sym (ap (λ x. cond x (p (set_bit b e false)) (q b)) lacks) ∙ h

not_false : (b : Bool) → not b ≡ true → b ≡ false
not_false true h = cc
not_false false h = refl

or_either : (a b : Bool) → (a || b) ≡ true → (a ≡ true) ⊎ (b ≡ true)
or_either true b h = inl refl
or_either false b h = inr h

or_first : (a b : Bool) → a ≡ true → (a || b) ≡ true
or_first true b h = refl
or_first false b h = cc

or_second : (a b : Bool) → b ≡ true → (a || b) ≡ true
or_second true b h = refl
or_second false b h = h

-- what both lack the product lacks
pub product-lacks : (size : ℕ) (p q : ℕ → Bool) (u : ℕ) → IsWithout p u → IsWithout q u → IsWithout (product size p q) u
product-lacks size p q u hp hq a has = elim (two_ways (product size p q a)) [
  | inl is ↦ (let (b, c, pb, qc, same) = product-unions size p q a is in
      clash (bit a u) has (ap (λ x. bit x u) (sym same) ∙ bit-or b c u ∙ ap₂ (λ x y. x || y) (has_not p u b hp pb) (has_not q u c hq qc)))
  | inr is ↦ is
]

pub product-comm : (size : ℕ) (p q : ℕ → Bool) → IsWithin size p → IsWithin size q → product size p q ≡ product size q p
product-comm size p q wp wq = everywhere (product size p q) (product size q p) (λ a. same_truth (product size p q a) (product size q p a)
    (λ h. let (b, c, pb, qc, same) = product-unions size p q a h in unions-product size q p wq wp a c b qc pb (or_comm c b ∙ same))
    (λ h. let (b, c, qb, pc, same) = product-unions size q p a h in unions-product size p q wp wq a c b pc qb (or_comm c b ∙ same)))

pub product-base : (size : ℕ) (q : ℕ → Bool) → IsWithin size base → IsWithin size q → product size base q ≡ q
product-base size q wb wq = IsProduct-unique base q (product size base q) q (product-is size base q wb wq) (record {
  is_union = λ a h. (0, a, refl, h, zero_or a);
  unions = λ b c hb hc. let none = eqb-true b 0 hb in subst (λ x. q (bit_or x c) ≡ true) (sym none) (subst (λ x. q x ≡ true) (sym (zero_or c)) hc);
})

pub product-empty : (size : ℕ) (q : ℕ → Bool) → product size empty q ≡ empty
product-empty size q = everywhere (product size empty q) empty (λ a. same_truth (product size empty q a) false
    (λ h. let (b, c, pb, qc, same) = product-unions size empty q a h in pb) (λ h. clash false h refl))

module _ (size e : ℕ) (p1 p0 q1 q0 : ℕ → Bool) (lp1 : IsWithout p1 e) (lp0 : IsWithout p0 e) (lq1 : IsWithout q1 e) (lq0 : IsWithout q0 e)
    (wp1 : IsWithin size p1) (wp0 : IsWithin size p0) (wq1 : IsWithin size q1) (wq0 : IsWithin size q0)
    (wp : IsWithin size (joined e p1 p0)) (wq : IsWithin size (joined e q1 q0)) where
  both_lack : (b c : ℕ) → bit b e ≡ false → bit c e ≡ false → bit (bit_or b c) e ≡ false
  both_lack b c hb hc = bit-or b c e ∙ ap₂ (λ x y. x || y) hb hc

  -- the members without the element
  pub product-else : subset0 (product size (joined e p1 p0) (joined e q1 q0)) e ≡ product size p0 q0
  product-else = everywhere (subset0 (product size (joined e p1 p0) (joined e q1 q0)) e) (product size p0 q0) (λ a. same_truth (subset0 (product size (joined e p1 p0) (joined e q1 q0)) e a) (product size p0 q0 a) (there a) (back a))
    where
      there : (a : ℕ) → subset0 (product size (joined e p1 p0) (joined e q1 q0)) e a ≡ true → product size p0 q0 a ≡ true
      there a h =
          let lacks = not_false (bit a e) (and_left (not (bit a e)) (product size (joined e p1 p0) (joined e q1 q0) a) h) in
          let (b, c, pb, qc, same) = product-unions size (joined e p1 p0) (joined e q1 q0) a (and_right (not (bit a e)) (product size (joined e p1 p0) (joined e q1 q0) a) h) in
          let none : (bit b e || bit c e) ≡ false = sym (bit-or b c e) ∙ ap (λ x. bit x e) same ∙ lacks in
          unions-product size p0 q0 wp0 wq0 a b c (from_else p1 p0 e b pb (or_left_false (bit b e) (bit c e) none)) (from_else q1 q0 e c qc (or_right_false (bit b e) (bit c e) none)) same
        where
          or_left_false : (x y : Bool) → (x || y) ≡ false → x ≡ false
          or_left_false true y h = cc
          or_left_false false y h = refl

          or_right_false : (x y : Bool) → (x || y) ≡ false → y ≡ false
          or_right_false true y h = cc
          or_right_false false y h = h

      back : (a : ℕ) → product size p0 q0 a ≡ true → subset0 (product size (joined e p1 p0) (joined e q1 q0)) e a ≡ true
      back a h =
          let (b, c, pb, qc, same) = product-unions size p0 q0 a h in
          let lacks : bit a e ≡ false = ap (λ x. bit x e) (sym same) ∙ both_lack b c (has_not p0 e b lp0 pb) (has_not q0 e c lq0 qc) in
          and_both (not (bit a e)) (product size (joined e p1 p0) (joined e q1 q0) a) (ap not lacks) (unions-product size (joined e p1 p0) (joined e q1 q0) wp wq a b c (in_else p1 p0 e b lp0 pb) (in_else q1 q0 e c lq0 qc) same)

  -- the members with the element, without it: three products
  pub product-then : subset1 (product size (joined e p1 p0) (joined e q1 q0)) e ≡ union (union (product size p1 q1) (product size p1 q0)) (product size p0 q1)
  product-then = everywhere (subset1 (product size (joined e p1 p0) (joined e q1 q0)) e) (union (union (product size p1 q1) (product size p1 q0)) (product size p0 q1)) (λ a. same_truth (subset1 (product size (joined e p1 p0) (joined e q1 q0)) e a) (union (union (product size p1 q1) (product size p1 q0)) (product size p0 q1) a) (there a) (back a))
    where
      cleared : (a b c : ℕ) → bit a e ≡ false → bit_or b c ≡ set_bit a e true → bit_or (set_bit b e false) (set_bit c e false) ≡ a
      cleared a b c lacks same = or_set b c e false false ∙ ap (λ x. set_bit x e false) same ∙ set_bit-set_same a e true false ∙ own a e false lacks

      there : (a : ℕ) → subset1 (product size (joined e p1 p0) (joined e q1 q0)) e a ≡ true → union (union (product size p1 q1) (product size p1 q0)) (product size p0 q1) a ≡ true
      there a h =
          let lacks = not_false (bit a e) (and_left (not (bit a e)) (product size (joined e p1 p0) (joined e q1 q0) (set_bit a e true)) h) in
          let (b, c, pb, qc, same) = product-unions size (joined e p1 p0) (joined e q1 q0) (set_bit a e true) (and_right (not (bit a e)) (product size (joined e p1 p0) (joined e q1 q0) (set_bit a e true)) h) in
          let is = cleared a b c lacks same in
          elim (two_ways (bit b e)) [
            | inl hb ↦ or_first (product size p1 q1 a || product size p1 q0 a) (product size p0 q1 a) (elim (two_ways (bit c e)) [
              | inl hc ↦ or_first (product size p1 q1 a) (product size p1 q0 a)
                  (unions-product size p1 q1 wp1 wq1 a (set_bit b e false) (set_bit c e false) (from_then p1 p0 e b pb hb) (from_then q1 q0 e c qc hc) is)
              | inr lc ↦ or_second (product size p1 q1 a) (product size p1 q0 a)
                  (unions-product size p1 q0 wp1 wq0 a (set_bit b e false) c (from_then p1 p0 e b pb hb) (from_else q1 q0 e c qc lc)
                  (subst (λ x. bit_or (set_bit b e false) x ≡ a) (own c e false lc) is))
            ])
            | inr lb ↦ or_second (product size p1 q1 a || product size p1 q0 a) (product size p0 q1 a) (elim (two_ways (bit c e)) [
              | inl hc ↦ unions-product size p0 q1 wp0 wq1 a b (set_bit c e false) (from_else p1 p0 e b pb lb) (from_then q1 q0 e c qc hc)
                  (subst (λ x. bit_or x (set_bit c e false) ≡ a) (own b e false lb) is)
              | inr lc ↦ clash (bit (set_bit a e true) e) (bit-set_same a e true) (ap (λ x. bit x e) (sym same) ∙ both_lack b c lb lc)
            ])
          ]

      -- of parts that lack the element, one with it
      member : (a b c b' c' : ℕ) → bit b e ≡ false → bit c e ≡ false → bit_or b c ≡ a → joined e p1 p0 b' ≡ true → joined e q1 q0 c' ≡ true → bit_or b' c' ≡ set_bit a e true
          → subset1 (product size (joined e p1 p0) (joined e q1 q0)) e a ≡ true
      member a b c b' c' lb lc same pb qc is =
          let lacks : bit a e ≡ false = ap (λ x. bit x e) (sym same) ∙ both_lack b c lb lc in
          and_both (not (bit a e)) (product size (joined e p1 p0) (joined e q1 q0) (set_bit a e true)) (ap not lacks) (unions-product size (joined e p1 p0) (joined e q1 q0) wp wq (set_bit a e true) b' c' pb qc is)

      raised : (b c : ℕ) (x y : Bool) → (x || y) ≡ true → (a : ℕ) → bit_or b c ≡ a → bit_or (set_bit b e x) (set_bit c e y) ≡ set_bit a e true
      raised b c x y some a same = or_set b c e x y ∙ ap₂ (λ n z. set_bit n e z) same some

      back : (a : ℕ) → union (union (product size p1 q1) (product size p1 q0)) (product size p0 q1) a ≡ true → subset1 (product size (joined e p1 p0) (joined e q1 q0)) e a ≡ true
      back a h = elim (or_either (product size p1 q1 a || product size p1 q0 a) (product size p0 q1 a) h) [
        | inl first ↦ elim (or_either (product size p1 q1 a) (product size p1 q0 a) first) [
          | inl is ↦ (let (b, c, pb, qc, same) = product-unions size p1 q1 a is in
              member a b c (set_bit b e true) (set_bit c e true) (has_not p1 e b lp1 pb) (has_not q1 e c lq1 qc) same (in_then p1 p0 e b lp1 pb) (in_then q1 q0 e c lq1 qc) (raised b c true true refl a same))
          | inr is ↦ (let (b, c, pb, qc, same) = product-unions size p1 q0 a is in let lc = has_not q0 e c lq0 qc in
              member a b c (set_bit b e true) c (has_not p1 e b lp1 pb) lc same (in_then p1 p0 e b lp1 pb) (in_else q1 q0 e c lq0 qc)
              (subst (λ x. bit_or (set_bit b e true) x ≡ set_bit a e true) (own c e false lc) (raised b c true false refl a same)))
        ]
        | inr is ↦ (let (b, c, pb, qc, same) = product-unions size p0 q1 a is in let lb = has_not p0 e b lp0 pb in
            member a b c b (set_bit c e true) lb (has_not q1 e c lq1 qc) same (in_else p1 p0 e b lp0 pb) (in_then q1 q0 e c lq1 qc)
            (subst (λ x. bit_or x (set_bit c e true) ≡ set_bit a e true) (own b e false lb) (raised b c false true refl a same)))
      ]

  pub product-joined : product size (joined e p1 p0) (joined e q1 q0) ≡ joined e (subset1 (product size (joined e p1 p0) (joined e q1 q0)) e) (product size p0 q0)
  product-joined =
      sym (joined-subsets (product size (joined e p1 p0) (joined e q1 q0)) e)
      ∙ ap (λ x. joined e (subset1 (product size (joined e p1 p0) (joined e q1 q0)) e) x) product-else
