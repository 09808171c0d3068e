-- Zeros past the end of a pattern.
use Rattle.std.proofs.Common.{◌≡◌, ℕ, zero, suc, ◌+◌, ◌*◌, ◌++◌, Bool, false, List, [], ◌∷◌, replicate, refl, ap, arith}
use Rattle.edge_bits.specs.Words.{digit}
use Rattle.function_laws.specs.Values.{assignment_of}

zeros : (count : ℕ) → assignment_of (replicate count false) ≡ 0
zeros zero = refl
zeros (suc count) = omega (arith, zeros count)

-- they change nothing
pub with_zeros : (bits : List Bool) (count : ℕ) → assignment_of (bits ++ replicate count false) ≡ assignment_of bits
with_zeros [] count = zeros count
with_zeros (b ∷ bits) count = ap (λ m. digit b + 2 * m) (with_zeros bits count)
