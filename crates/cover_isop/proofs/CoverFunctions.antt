-- The function of a cover, by the parts of its family.
use Rattle.std.proofs.Common.{◌≡◌, ℕ, ◌+◌, ◌*◌, ◌/◌, ◌%◌, ◌^◌, ◌<◌, ◌≤◌, ◌==◌, Bool, true, false, true≢false, not, ◌||◌, ◌⊎◌, inl, inr, refl, sym, ap, ◌∙◌, subst, arith}
use Rattle.std.proofs.Math.Nat.{one-le-pow}
use Rattle.std.proofs.lemmas.Bool.{and_parts, or_cases, cases_lt, eqb-false, eqb-true, lt-ltb, ltb-true, not-true}
use Rattle.std.specs.Prelude.{nat_lt}
use Rattle.edge_bits.specs.Assignments.{bit, set_bit}
use Rattle.edge_bits.proofs.AssignmentLemmas.{bit-set_same, bit-set_other, set_bit-own, set_bit-set_same, set_bit-below}
use Rattle.function_laws.specs.Values.{constant, disjunction}
use Rattle.function_laws.specs.Families.{IsWithout, base, empty, joined}
use Rattle.function_laws.specs.IrredundantCovers.{cover_value}
use Rattle.function_laws.proofs.CoverLaws.{Covers, Fits, LiteralFits, bit-zero, both, covers-value, fits_less, fits_with, literal_fits, value-covers}
use Rattle.function_laws.proofs.ValueLemmas.{everywhere}
use Rattle.node_store.specs.Memo.{literal}
use Rattle.cover_isop.specs.Covers.{narrowed}

pub same_truth : (a b : Bool) → (a ≡ true → b ≡ true) → (b ≡ true → a ≡ true) → a ≡ b
same_truth true b to back = sym (to refl)
same_truth false true to back = back refl
same_truth false false to back = refl

-- no combination, and the one without elements
pub cover-empty : (n m : ℕ) → cover_value n m empty ≡ constant false
cover-empty n m = everywhere (cover_value n m empty) (constant false) (λ k. same_truth (cover_value n m empty k) false (λ h. (value-covers n m empty k h).2) (λ h. absurd (true≢false (sym h))))

pub cover-base : (n m : ℕ) → cover_value n m base ≡ constant true
cover-base n m = everywhere (cover_value n m base) (constant true) (λ k. covers-value n m base k (0, some, refl, λ v lt. ((λ e. absurd (true≢false (sym e ∙ bit-zero (2 * v)))), (λ e. absurd (true≢false (sym e ∙ bit-zero (2 * v + 1)))))))
  where
    some : 0 < 2 ^ m
    some = let e = one-le-pow m 2 (omega arith) in omega (arith, e)

-- an element is the literal of half its number, with that sign
abbrev IsSign : ℕ → Type 0
IsSign e = (((e % 2 == 0) ≡ true) × (e ≡ 2 * (e / 2))) ⊎ (((e % 2 == 0) ≡ false) × (e ≡ 2 * (e / 2) + 1))

sign_of : (e : ℕ) → IsSign e
sign_of e = at (e % 2 == 0) refl
  where
    at : (b : Bool) → (e % 2 == 0) ≡ b → IsSign e
    at true is = inl (is, (let even = eqb-true (e % 2) 0 is in omega (arith, even)))
    at false is = inr (is, (let odd = eqb-false (e % 2) 0 is in omega (arith, odd)))

fits-literal : (n c k e : ℕ) → Fits n c k → bit c e ≡ true → e / 2 < n → literal (e / 2) (e % 2 == 0) k ≡ true
fits-literal n c k e h has lt = at (sign_of e)
  where
    at : IsSign e → literal (e / 2) (e % 2 == 0) k ≡ true
    at (inl (even, is)) = rw even ((h (e / 2) lt).0 (ap (bit c) (sym is) ∙ has))
    at (inr (odd, is)) = rw odd (ap not ((h (e / 2) lt).1 (ap (bit c) (sym is) ∙ has)))

literal-fits : (k e : ℕ) → literal (e / 2) (e % 2 == 0) k ≡ true → LiteralFits k (e / 2) e
literal-fits k e h = at (sign_of e)
  where
    at : IsSign e → LiteralFits k (e / 2) e
    at (inl (even, is)) = subst (LiteralFits k (e / 2)) (sym is) (literal_fits k (e / 2) true (rw even at h))
    at (inr (odd, is)) = subst (LiteralFits k (e / 2)) (sym is) (literal_fits k (e / 2) false (not-true (bit k (e / 2)) (rw odd at h)))

-- a literal of another variable may be there or not
fits_beyond : (n c k e : ℕ) → n ≤ e / 2 → Fits n c k → Fits n (set_bit c e true) k
fits_beyond n c k e le h v lt = (
  (λ has. (h v lt).0 (sym (bit-set_other c e (2 * v) true (λ same. omega (arith, le, lt, same))) ∙ has)),
  (λ has. (h v lt).1 (sym (bit-set_other c e (2 * v + 1) true (λ same. omega (arith, le, lt, same))) ∙ has)),
)

-- a function is true with an element's literal, where that is one of n variables
abbrev HasLiteral : ℕ → ℕ → ℕ → Type 0
HasLiteral n e k = e / 2 < n → literal (e / 2) (e % 2 == 0) k ≡ true

narrowed-true : (n e : ℕ) (f : ℕ → Bool) (k : ℕ) → f k ≡ true → HasLiteral n e k → narrowed n e f k ≡ true
narrowed-true n e f k holds has = at (nat_lt (e / 2) n) refl
  where
    at : (b : Bool) → nat_lt (e / 2) n ≡ b → narrowed n e f k ≡ true
    at true is = rw is (both (f k) (literal (e / 2) (e % 2 == 0) k) holds (has (ltb-true (e / 2) n is)))
    at false is = rw is holds

true-narrowed : (n e : ℕ) (f : ℕ → Bool) (k : ℕ) → narrowed n e f k ≡ true → (f k ≡ true) × HasLiteral n e k
true-narrowed n e f k h = at (nat_lt (e / 2) n) refl
  where
    at : (b : Bool) → nat_lt (e / 2) n ≡ b → (f k ≡ true) × HasLiteral n e k
    at true is = let p = and_parts (f k) (literal (e / 2) (e % 2 == 0) k) (rw is at h) in (p.0, λ lt. p.1)
    at false is = (rw is at h, λ lt. absurd (true≢false (sym (lt-ltb (e / 2) n lt) ∙ is)))

-- at an element that neither part has
module _ (n m e : ℕ) (p q : ℕ → Bool) (within : e < m) (lacks_p : IsWithout p e) (lacks_q : IsWithout q e) where
  lacks : (f : ℕ → Bool) → IsWithout f e → (c : ℕ) → f c ≡ true → bit c e ≡ false
  lacks f without c member = at (bit c e) refl
    where
      at : (b : Bool) → bit c e ≡ b → bit c e ≡ false
      at true is = absurd (true≢false (sym member ∙ without c is))
      at false is = is

  parted : (k : ℕ) → Covers n m (joined e p q) k → (Covers n m p k × HasLiteral n e k) ⊎ Covers n m q k
  parted k (c, below, member, fitting) = at (bit c e) refl
    where
      at : (b : Bool) → bit c e ≡ b → (Covers n m p k × HasLiteral n e k) ⊎ Covers n m q k
      at true is = inl ((set_bit c e false, set_bit-below m c e false below within, rw is at member, fits_less n c k e fitting), fits-literal n c k e fitting is)
      at false is = inr (c, below, rw is at member, fitting)

  with_element : (k : ℕ) → Covers n m p k → HasLiteral n e k → Covers n m (joined e p q) k
  with_element k (c, below, member, fitting) has = (set_bit c e true, set_bit-below m c e true below within, rw (bit-set_same c e true) back, more (cases_lt (e / 2) n))
    where
      back : p (set_bit (set_bit c e true) e false) ≡ true
      back = ap p (set_bit-set_same c e true false ∙ ap (set_bit c e) (sym (lacks p lacks_p c member)) ∙ set_bit-own c e) ∙ member

      more : (e / 2 < n) ⊎ (n ≤ e / 2) → Fits n (set_bit c e true) k
      more (inl lt) = fits_with n c k (e / 2) e fitting (literal-fits k e (has lt))
      more (inr le) = fits_beyond n c k e le fitting

  without_element : (k : ℕ) → Covers n m q k → Covers n m (joined e p q) k
  without_element k (c, below, member, fitting) = (c, below, rw (lacks q lacks_q c member) member, fitting)

  or_true : (a b : Bool) → (a ≡ true) ⊎ (b ≡ true) → (a || b) ≡ true
  or_true true b h = refl
  or_true false b (inl h) = absurd (true≢false (sym h))
  or_true false b (inr h) = h

  -- the then part's function times the element's literal, or the else part's
  pub cover-joined : cover_value n m (joined e p q) ≡ disjunction (narrowed n e (cover_value n m p)) (cover_value n m q)
  cover-joined = everywhere (cover_value n m (joined e p q)) (disjunction (narrowed n e (cover_value n m p)) (cover_value n m q)) (λ k.
      same_truth (cover_value n m (joined e p q) k) (narrowed n e (cover_value n m p) k || cover_value n m q k) (to k) (back k))
    where
      to : (k : ℕ) → cover_value n m (joined e p q) k ≡ true → (narrowed n e (cover_value n m p) k || cover_value n m q k) ≡ true
      to k h = or_true (narrowed n e (cover_value n m p) k) (cover_value n m q k) (elim (parted k (value-covers n m (joined e p q) k h)) [
        | inl at ↦ inl (narrowed-true n e (cover_value n m p) k (covers-value n m p k at.0) at.1)
        | inr at ↦ inr (covers-value n m q k at)
      ])

      back : (k : ℕ) → (narrowed n e (cover_value n m p) k || cover_value n m q k) ≡ true → cover_value n m (joined e p q) k ≡ true
      back k h = covers-value n m (joined e p q) k (elim (or_cases (narrowed n e (cover_value n m p) k) (cover_value n m q k) h) [
        | inl at ↦ (let t = true-narrowed n e (cover_value n m p) k at in with_element k (value-covers n m p k t.0) t.1)
        | inr at ↦ without_element k (value-covers n m q k at)
      ])
