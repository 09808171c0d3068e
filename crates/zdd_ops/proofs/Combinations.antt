-- The bits of combinations, and of their unions and meets.
use Rattle.std.proofs.Common.{◌≡◌, ◌≢◌, ℕ, ◌^◌, ◌==◌, eqb, Bool, true, false, cond, ◌&&◌, ◌||◌, ⊎_elim, refl, sym, ap, ap₂, ◌∙◌, subst, eq-eqb, ne_eqb}
use Rattle.std.specs.Prelude.{bit_or, bit_and, min, max}
use Rattle.std.proofs.lemmas.Bool.{cases_eq}
use Rattle.std.proofs.lemmas.Nat.Bits.{bit_at-zero, bit_at-pow_same, bit_at-pow_other, bit_at_or, bit_at_and}
use Rattle.edge_bits.specs.Words.{digit}
use Rattle.edge_bits.specs.Assignments.{bit, set_bit}
use Rattle.edge_bits.proofs.AssignmentLemmas.{bit-set_same, bit-set_other, set_bit-own, set_bit-set_same, same_bits, digit-bit}
use Rattle.function_laws.specs.Families.{base, single, joined, empty}
use Rattle.function_laws.proofs.ValueLemmas.{everywhere}

pub bit-zero : (v : ℕ) → bit 0 v ≡ false
bit-zero v = ap (λ x. eqb x 1) (bit_at-zero v)

pub bit-power_same : (e : ℕ) → bit (2 ^ e) e ≡ true
bit-power_same e = ap (λ x. eqb x 1) (bit_at-pow_same e)

pub bit-power_other : (e u : ℕ) → u ≢ e → bit (2 ^ e) u ≡ false
bit-power_other e u apart = ap (λ x. eqb x 1) (bit_at-pow_other e u apart)

max_digit : (a b : Bool) → eqb (max (digit a) (digit b)) 1 ≡ (a || b)
max_digit true true = refl
max_digit true false = refl
max_digit false true = refl
max_digit false false = refl

min_digit : (a b : Bool) → eqb (min (digit a) (digit b)) 1 ≡ (a && b)
min_digit true true = refl
min_digit true false = refl
min_digit false true = refl
min_digit false false = refl

pub bit-or : (a b v : ℕ) → bit (bit_or a b) v ≡ (bit a v || bit b v)
bit-or a b v = ap (λ x. eqb x 1) (bit_at_or a b v) ∙ ap₂ (λ x y. eqb (max x y) 1) (sym (digit-bit a v)) (sym (digit-bit b v)) ∙ max_digit (bit a v) (bit b v)

pub bit-and : (a b v : ℕ) → bit (bit_and a b) v ≡ (bit a v && bit b v)
bit-and a b v = ap (λ x. eqb x 1) (bit_at_and a b v) ∙ ap₂ (λ x y. eqb (min x y) 1) (sym (digit-bit a v)) (sym (digit-bit b v)) ∙ min_digit (bit a v) (bit b v)

-- the combination of one element
pub power_is : (e : ℕ) → 2 ^ e ≡ set_bit 0 e true
power_is e = same_bits (2 ^ e) (set_bit 0 e true) (λ u.
    ⊎_elim (λ same. subst (λ x. bit (2 ^ e) x ≡ bit (set_bit 0 e true) x) (sym same) (bit-power_same e ∙ sym (bit-set_same 0 e true)))
    (λ apart. bit-power_other e u apart ∙ sym (bit-zero u) ∙ sym (bit-set_other 0 e u true apart)) (cases_eq u e))

set_own : (a e : ℕ) → bit a e ≡ true → set_bit a e true ≡ a
set_own a e has = ap (set_bit a e) (sym has) ∙ set_bit-own a e

clear_own : (a e : ℕ) → bit a e ≡ false → set_bit a e false ≡ a
clear_own a e lacks = ap (set_bit a e) (sym lacks) ∙ set_bit-own a e

-- the node of an element over Base and Empty
pub joined-single : (e : ℕ) → joined e base empty ≡ single e
joined-single e = everywhere (joined e base empty) (single e) (λ a. by_bit a (bit a e) refl)
  where
    has : (a : ℕ) → bit a e ≡ true → (set_bit a e false == 0) ≡ (a == 2 ^ e)
    has a here = ⊎_elim
        (λ none. eq-eqb (set_bit a e false) 0 none ∙ sym (eq-eqb a (2 ^ e)
        (sym (set_own a e here) ∙ sym (set_bit-set_same a e false true) ∙ ap (λ x. set_bit x e true) none ∙ sym (power_is e))))
        (λ some. ne_eqb (set_bit a e false) 0 some ∙ sym (ne_eqb a (2 ^ e) (λ is. some (ap (λ x. set_bit x e false) (is ∙ power_is e) ∙ set_bit-set_same 0 e true false ∙ clear_own 0 e (bit-zero e)))))
        (cases_eq (set_bit a e false) 0)

    by_bit : (a : ℕ) (b : Bool) → bit a e ≡ b → cond b (set_bit a e false == 0) false ≡ (a == 2 ^ e)
    by_bit a true here = has a here
    by_bit a false lacks = sym (ne_eqb a (2 ^ e) (λ is. let never : true ≡ false = sym (bit-power_same e) ∙ ap (λ x. bit x e) (sym is) ∙ lacks in cc))
