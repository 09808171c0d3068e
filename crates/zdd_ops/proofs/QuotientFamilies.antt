-- Quotients of families, part by part.
use Rattle.std.proofs.Common.{◌≡◌, ℕ, ◌==◌, Bool, true, false, not, cond, ◌&&◌, ◌||◌, inl, inr, refl, sym, ap, ap₂, ◌∙◌, subst, eq-eqb}
use Rattle.std.specs.Prelude.{bit_and, bit_or}
use Rattle.std.proofs.lemmas.Bool.{eqb-true}
use Rattle.edge_bits.specs.Assignments.{bit, set_bit}
use Rattle.edge_bits.proofs.AssignmentLemmas.{bit-set_same, set_bit-set_same}
use Rattle.function_laws.specs.Lists.{all_below, any_below}
use Rattle.function_laws.specs.Families.{IsWithout, base, empty, joined, meet, quotient}
use Rattle.function_laws.specs.Products.{FitsEach, IsQuotient}
use Rattle.function_laws.proofs.ListLemmas.{all_below-true, any_below-true, true-all_below, true-any_below}
use Rattle.function_laws.proofs.ValueLemmas.{everywhere}
use Rattle.zdd_ops.proofs.Combinations.{bit-and, bit-or, bit-zero}
use Rattle.zdd_ops.specs.Quotients.{HasMember}
use Rattle.zdd_ops.proofs.Members.{IsWithin, and_both, and_left, and_right, and_set, and_zero, clash, or_set, or_zero, own, same_truth, two_ways}
use Rattle.zdd_ops.proofs.ProductFamilies.{from_else, from_then, has_not, in_else, in_then}

-- the test of one member of the divisor
abbrev pub fits : (ℕ → Bool) → (ℕ → Bool) → ℕ → ℕ → Bool
fits p q a b = not (q b) || ((bit_and a b == 0) && p (bit_or a b))

with_member : (x y : Bool) → x ≡ true → (not x || y) ≡ true → y ≡ true
with_member true y h is = is
with_member false y h is = cc

each_member : (x y : Bool) → (x ≡ true → y ≡ true) → (not x || y) ≡ true
each_member true y h = h refl
each_member false y h = refl

pub quotient-is : (size : ℕ) (p q : ℕ → Bool) → IsWithin size q → IsQuotient p q (quotient size p q)
quotient-is size p q wq = record {
  some = λ a h. let x = true-any_below size q (and_left (any_below size q) (all_below size (fits p q a)) h) in (x.0, x.1.1);
  fits = λ a h b qb.
      let y = with_member (q b) ((bit_and a b == 0) && p (bit_or a b)) qb (true-all_below size b (fits p q a) (and_right (any_below size q) (all_below size (fits p q a)) h) (wq b qb)) in
      (eqb-true (bit_and a b) 0 (and_left (bit_and a b == 0) (p (bit_or a b)) y), and_right (bit_and a b == 0) (p (bit_or a b)) y);
  holds = λ a b qb each. and_both (any_below size q) (all_below size (fits p q a)) (any_below-true size b q (wq b qb) qb)
      (all_below-true size (fits p q a) (λ c below. each_member (q c) ((bit_and a c == 0) && p (bit_or a c)) (λ qc.
      let f = each c qc in and_both (bit_and a c == 0) (p (bit_or a c)) (eq-eqb (bit_and a c) 0 f.0) f.1)));
}

pub IsQuotient-unique : (p q r s : ℕ → Bool) → IsQuotient p q r → IsQuotient p q s → r ≡ s
IsQuotient-unique p q r s x y = everywhere r s (λ a. same_truth (r a) (s a)
    (λ h. let m = x.some a h in y.holds a m.0 m.1 (x.fits a h))
    (λ h. let m = y.some a h in x.holds a m.0 m.1 (y.fits a h)))

-- what the dividend lacks the quotient lacks
pub quotient-lacks : (size : ℕ) (p q : ℕ → Bool) (u : ℕ) → IsWithin size q → IsWithout p u → IsWithout (quotient size p q) u
quotient-lacks size p q u wq hp a has = elim (two_ways (quotient size p q a)) [
  | inl is ↦ (let i = quotient-is size p q wq in let m = i.some a is in let f = i.fits a is m.0 m.1 in
      clash (p (bit_or a m.0)) f.1 (hp (bit_or a m.0) (bit-or a m.0 u ∙ ap (λ x. x || bit m.0 u) has)))
  | inr is ↦ is
]

pub quotient-by_empty : (size : ℕ) (p : ℕ → Bool) → quotient size p empty ≡ empty
quotient-by_empty size p = IsQuotient-unique p empty (quotient size p empty) empty (quotient-is size p empty (λ a h. clash false h refl)) (record {
  some = λ a h. clash false h refl;
  fits = λ a h. clash false h refl;
  holds = λ a b qb each. qb;
})

pub quotient-of_empty : (size : ℕ) (q : ℕ → Bool) → IsWithin size q → quotient size empty q ≡ empty
quotient-of_empty size q wq = everywhere (quotient size empty q) empty (λ a. same_truth (quotient size empty q a) false
    (λ h. let i = quotient-is size empty q wq in let m = i.some a h in let f = i.fits a h m.0 m.1 in f.1) (λ h. clash false h refl))

pub quotient-by_base : (size : ℕ) (p : ℕ → Bool) → IsWithin size base → quotient size p base ≡ p
quotient-by_base size p wb = IsQuotient-unique p base (quotient size p base) p (quotient-is size p base wb) (record {
  some = λ a h. (0, refl);
  fits = λ a h b qb. subst (λ x. (bit_and a x ≡ 0) × (p (bit_or a x) ≡ true)) (sym (eqb-true b 0 qb)) (and_zero a, subst (λ x. p x ≡ true) (sym (or_zero a)) h);
  holds = λ a b qb each. subst (λ x. p x ≡ true) (or_zero a) ((each 0 refl).1);
})

-- a meet that is nothing, with the element set or not
and_cleared : (a c e : ℕ) → bit c e ≡ false → set_bit (bit_and a c) e false ≡ bit_and (set_bit a e false) c
and_cleared a c e lacks = sym (and_set a c e false false) ∙ ap (bit_and (set_bit a e false)) (own c e false lacks)

or_cleared : (a c e : ℕ) → bit c e ≡ false → set_bit (bit_or a c) e false ≡ bit_or (set_bit a e false) c
or_cleared a c e lacks = sym (or_set a c e false false) ∙ ap (bit_or (set_bit a e false)) (own c e false lacks)

and_false : (b : Bool) → (b && false) ≡ false
and_false true = refl
and_false false = refl

or_false : (b : Bool) → (b || false) ≡ b
or_false true = refl
or_false false = refl

cleared_zero : (e : ℕ) → set_bit 0 e false ≡ 0
cleared_zero e = own 0 e false (bit-zero e)

none_back : (a c e : ℕ) → bit c e ≡ false → bit_and (set_bit a e false) c ≡ 0 → bit_and a c ≡ 0
none_back a c e lacks none =
    sym (own (bit_and a c) e false (bit-and a c e ∙ ap (λ x. bit a e && x) lacks ∙ and_false (bit a e))) ∙ and_cleared a c e lacks ∙ none

module _ (size e : ℕ) (p1 p0 : ℕ → Bool) (lp1 : IsWithout p1 e) (lp0 : IsWithout p0 e) where
  -- the divisor lacks the element
  pub quotient-above : (q : ℕ → Bool) → IsWithout q e → IsWithin size q → quotient size (joined e p1 p0) q ≡ joined e (quotient size p1 q) (quotient size p0 q)
  quotient-above q lq wq = IsQuotient-unique (joined e p1 p0) q (quotient size (joined e p1 p0) q) (joined e (quotient size p1 q) (quotient size p0 q)) (quotient-is size (joined e p1 p0) q wq) (record {
    some = λ a h. elim (two_ways (bit a e)) [
      | inl has ↦ first.some (set_bit a e false) (from_then (quotient size p1 q) (quotient size p0 q) e a h has)
      | inr lacks ↦ second.some a (from_else (quotient size p1 q) (quotient size p0 q) e a h lacks)
    ];
    fits = λ a h b qb. elim (two_ways (bit a e)) [
      | inl has ↦ (let lb = has_not q e b lq qb in let f = first.fits (set_bit a e false) (from_then (quotient size p1 q) (quotient size p0 q) e a h has) b qb in (
        none_back a b e lb f.0,
        with_it a b has lb f.1,
      ))
      | inr lacks ↦ (let lb = has_not q e b lq qb in let f = second.fits a (from_else (quotient size p1 q) (quotient size p0 q) e a h lacks) b qb in (
        f.0,
        in_else p1 p0 e (bit_or a b) lp0 f.1,
      ))
    ];
    holds = λ a b qb each. elim (two_ways (bit a e)) [
      | inl has ↦ ap (λ x. cond x (quotient size p1 q (set_bit a e false)) (quotient size p0 q a)) has ∙ first.holds (set_bit a e false) b qb (λ c qc.
          let lc = has_not q e c lq qc in let f = each c qc in (
            sym (and_cleared a c e lc) ∙ ap (λ x. set_bit x e false) f.0 ∙ cleared_zero e,
            subst (λ x. p1 x ≡ true) (or_cleared a c e lc) (from_then p1 p0 e (bit_or a c) f.1 (bit-or a c e ∙ ap (λ x. x || bit c e) has)),
          ))
      | inr lacks ↦ ap (λ x. cond x (quotient size p1 q (set_bit a e false)) (quotient size p0 q a)) lacks ∙ second.holds a b qb (λ c qc.
          let lc = has_not q e c lq qc in let f = each c qc in (
            f.0,
            from_else p1 p0 e (bit_or a c) f.1 (bit-or a c e ∙ ap₂ (λ x y. x || y) lacks lc),
          ))
    ];
  })
    where
      first : IsQuotient p1 q (quotient size p1 q)
      first = quotient-is size p1 q wq

      second : IsQuotient p0 q (quotient size p0 q)
      second = quotient-is size p0 q wq

      with_it : (a b : ℕ) → bit a e ≡ true → bit b e ≡ false → p1 (bit_or (set_bit a e false) b) ≡ true → joined e p1 p0 (bit_or a b) ≡ true
      with_it a b has lb h =
          ap (λ x. cond x (p1 (set_bit (bit_or a b) e false)) (p0 (bit_or a b))) (bit-or a b e ∙ ap (λ x. x || bit b e) has)
          ∙ subst (λ x. p1 x ≡ true) (sym (or_cleared a b e lb)) h

  -- the divisor has members with the element
  module _ (q1 q0 : ℕ → Bool) (lq1 : IsWithout q1 e) (lq0 : IsWithout q0 e) (wq1 : IsWithin size q1) (wq0 : IsWithin size q0) (wq : IsWithin size (joined e q1 q0)) (m : HasMember q1) where
    whole : IsQuotient (joined e p1 p0) (joined e q1 q0) (quotient size (joined e p1 p0) (joined e q1 q0))
    whole = quotient-is size (joined e p1 p0) (joined e q1 q0) wq

    lacks_it : (a : ℕ) → FitsEach (joined e p1 p0) (joined e q1 q0) a → bit a e ≡ false
    lacks_it a each =
        let f = each (set_bit m.0 e true) (in_then q1 q0 e m.0 lq1 m.1) in
        let x : (bit a e && bit (set_bit m.0 e true) e) ≡ false = sym (bit-and a (set_bit m.0 e true) e) ∙ ap (λ y. bit y e) f.0 ∙ bit-zero e in
        from_and (bit a e) (bit (set_bit m.0 e true) e) (bit-set_same m.0 e true) x
      where
        from_and : (x y : Bool) → y ≡ true → (x && y) ≡ false → x ≡ false
        from_and true y h is = clash y h is
        from_and false y h is = refl

    fits_first : (a : ℕ) → FitsEach (joined e p1 p0) (joined e q1 q0) a → FitsEach p1 q1 a
    fits_first a each c qc =
        let f = each (set_bit c e true) (in_then q1 q0 e c lq1 qc) in
        let la = lacks_it a each in
        let back : set_bit (set_bit c e true) e false ≡ c = set_bit-set_same c e true false ∙ own c e false (has_not q1 e c lq1 qc) in (
          ap₂ bit_and (sym (own a e false la)) (sym back) ∙ and_set a (set_bit c e true) e false false ∙ ap (λ x. set_bit x e false) f.0 ∙ cleared_zero e,
          subst (λ x. p1 x ≡ true) (sym (or_set a (set_bit c e true) e false false) ∙ ap₂ bit_or (own a e false la) back)
              (from_then p1 p0 e (bit_or a (set_bit c e true)) f.1 (bit-or a (set_bit c e true) e ∙ ap (λ x. bit a e || x) (bit-set_same c e true) ∙ or_true (bit a e))),
        )
      where
        or_true : (b : Bool) → (b || true) ≡ true
        or_true true = refl
        or_true false = refl

    fits_second : (a : ℕ) → FitsEach (joined e p1 p0) (joined e q1 q0) a → FitsEach p0 q0 a
    fits_second a each c qc =
        let f = each c (in_else q1 q0 e c lq0 qc) in (
          f.0,
          from_else p1 p0 e (bit_or a c) f.1 (bit-or a c e ∙ ap₂ (λ x y. x || y) (lacks_it a each) (has_not q0 e c lq0 qc)),
        )

    fits_both : (a : ℕ) → FitsEach p1 q1 a → FitsEach p0 q0 a → FitsEach (joined e p1 p0) (joined e q1 q0) a
    fits_both a one two d qd =
        let mine = one m.0 m.1 in
        let la = left_false (bit a e) (bit m.0 e) (sym (bit-or a m.0 e) ∙ has_not p1 e (bit_or a m.0) lp1 mine.1) in
        elim (two_ways (bit d e)) [
          | inl has ↦ (let f = one (set_bit d e false) (from_then q1 q0 e d qd has) in (
            sym (own (bit_and a d) e false (bit-and a d e ∙ ap (λ x. x && bit d e) la))
                ∙ sym (and_set a d e false false) ∙ ap (λ x. bit_and x (set_bit d e false)) (own a e false la) ∙ f.0,
            ap (λ x. cond x (p1 (set_bit (bit_or a d) e false)) (p0 (bit_or a d))) (bit-or a d e ∙ ap₂ (λ x y. x || y) la has)
                ∙ subst (λ x. p1 x ≡ true) (ap (λ x. bit_or x (set_bit d e false)) (sym (own a e false la)) ∙ or_set a d e false false) f.1,
          ))
          | inr lacks ↦ (let f = two d (from_else q1 q0 e d qd lacks) in (f.0, in_else p1 p0 e (bit_or a d) lp0 f.1))
        ]
      where
        left_false : (x y : Bool) → (x || y) ≡ false → x ≡ false
        left_false true y h = cc
        left_false false y h = refl

    member : joined e q1 q0 (set_bit m.0 e true) ≡ true
    member = in_then q1 q0 e m.0 lq1 m.1

    -- and none without it
    pub quotient-one : q0 ≡ empty → quotient size (joined e p1 p0) (joined e q1 q0) ≡ quotient size p1 q1
    quotient-one none = IsQuotient-unique p1 q1 (quotient size (joined e p1 p0) (joined e q1 q0)) (quotient size p1 q1) (record {
      some = λ a h. m;
      fits = λ a h. fits_first a (whole.fits a h);
      holds = λ a b qb each. whole.holds a (set_bit m.0 e true) member (fits_both a each (λ c qc. clash (q0 c) qc (ap (λ (f : ℕ → Bool). f c) none)));
    }) (quotient-is size p1 q1 wq1)

    -- and some without it
    pub quotient-both : HasMember q0 → quotient size (joined e p1 p0) (joined e q1 q0) ≡ meet (quotient size p1 q1) (quotient size p0 q0)
    quotient-both n = everywhere (quotient size (joined e p1 p0) (joined e q1 q0)) (meet (quotient size p1 q1) (quotient size p0 q0)) (λ a.
        same_truth (quotient size (joined e p1 p0) (joined e q1 q0) a) (quotient size p1 q1 a && quotient size p0 q0 a)
        (λ h. and_both (quotient size p1 q1 a) (quotient size p0 q0 a)
        (first.holds a m.0 m.1 (fits_first a (whole.fits a h))) (second.holds a n.0 n.1 (fits_second a (whole.fits a h))))
        (λ h. whole.holds a (set_bit m.0 e true) member (fits_both a
        (first.fits a (and_left (quotient size p1 q1 a) (quotient size p0 q0 a) h)) (second.fits a (and_right (quotient size p1 q1 a) (quotient size p0 q0 a) h)))))
      where
        first : IsQuotient p1 q1 (quotient size p1 q1)
        first = quotient-is size p1 q1 wq1

        second : IsQuotient p0 q0 (quotient size p0 q0)
        second = quotient-is size p0 q0 wq0
