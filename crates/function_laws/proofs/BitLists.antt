-- Assignments by the list of their bits.
use Rattle.std.proofs.Common.{◌≡◌, ℕ, zero, suc, ◌+◌, ◌*◌, ◌/◌, ◌%◌, ◌^◌, ◌<◌, Bool, true, false, List, [], ◌∷◌, length, get_or, refl, ap, ◌∙◌, arith}
use Rattle.std.specs.Prelude.{◌==◌}
use Rattle.std.specs.Int.{bit_at}
use Rattle.std.proofs.lemmas.Nat.Bits.{bit_at_lowest, bit_at-suc}
use Rattle.std.proofs.Math.Nat.{pow-suc}
use Rattle.edge_bits.specs.Words.{digit}
use Rattle.edge_bits.specs.Assignments.{bit}
use Rattle.function_laws.specs.Values.{assignment_of}

digit_low : (b : Bool) (m : ℕ) → (digit b + 2 * m) % 2 ≡ digit b
digit_low true m = omega arith
digit_low false m = omega arith

digit_high : (b : Bool) (m : ℕ) → (digit b + 2 * m) / 2 ≡ m
digit_high true m = omega arith
digit_high false m = omega arith

digit_test : (b : Bool) → (digit b == 1) ≡ b
digit_test true = refl
digit_test false = refl

bit_of : (bits : List Bool) (v : ℕ) → bit_at (assignment_of bits) v ≡ digit (get_or bits v false)
bit_of [] v = bit_at_zero v
  where
    bit_at_zero : (v : ℕ) → bit_at 0 v ≡ 0
    bit_at_zero zero = bit_at_lowest 0
    bit_at_zero (suc v) = bit_at-suc 0 v ∙ bit_at_zero v
bit_of (b ∷ bits) zero = bit_at_lowest (digit b + 2 * assignment_of bits) ∙ digit_low b (assignment_of bits)
bit_of (b ∷ bits) (suc v) =
    bit_at-suc (digit b + 2 * assignment_of bits) v ∙ ap (λ m. bit_at m v) (digit_high b (assignment_of bits)) ∙ bit_of bits v

-- the bits of an assignment are those that it was made of
pub bit-assignment_of : (bits : List Bool) (v : ℕ) → bit (assignment_of bits) v ≡ get_or bits v false
bit-assignment_of bits v = ap (λ d. d == 1) (bit_of bits v) ∙ digit_test (get_or bits v false)

pub assignment_of-below : (bits : List Bool) → assignment_of bits < 2 ^ length bits
assignment_of-below [] = omega arith
assignment_of-below (true ∷ bits) = omega (arith, assignment_of-below bits, pow-suc 2 (length bits))
assignment_of-below (false ∷ bits) = omega (arith, assignment_of-below bits, pow-suc 2 (length bits))
