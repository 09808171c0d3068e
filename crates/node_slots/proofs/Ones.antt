-- A function of the first n variables that is true at the assignment where these are true is so wherever they are.
use Rattle.std.proofs.Common.{◌≡◌, ℕ, zero, suc, ◌+◌, ◌^◌, ◌<◌, ◌≤◌, inl, inr, Bool, true, false, eqb, refl, ap, sym, ◌∙◌, arith}
use Rattle.std.proofs.Math.Nat.{pow-suc}
use Rattle.std.proofs.lemmas.Nat.{pow_pos}
use Rattle.std.proofs.lemmas.Nat.Bits.{bit_at-zero, bit_at_above}
use Rattle.std.proofs.lemmas.Bool.{cases_lt, cases_eq}
use Rattle.edge_bits.specs.Assignments.{bit, set_bit}
use Rattle.edge_bits.proofs.AssignmentLemmas.{bit-set_same, bit-set_other, same_bits}
use Rattle.function_laws.specs.Values.{IsOf}
use Rattle.node_slots.specs.Stores.{ones}
use Rattle.node_slots.proofs.Flips.{bit-ones}

-- an assignment with m of its bits, from n on, taken away
abbrev cleared : ℕ → ℕ → ℕ → ℕ
cleared n zero k = k
cleared n (suc m) k = set_bit (cleared n m k) (n + m) false

value-cleared : (n : ℕ) (f : ℕ → Bool) → IsOf n f → (m k : ℕ) → f (cleared n m k) ≡ f k
value-cleared n f of zero k = refl
value-cleared n f of (suc m) k = of (n + m) (omega arith) (cleared n m k) false ∙ value-cleared n f of m k

bit-before : (n v : ℕ) → v < n → (m k : ℕ) → bit (cleared n m k) v ≡ bit k v
bit-before n v lt zero k = refl
bit-before n v lt (suc m) k = bit-set_other (cleared n m k) (n + m) v false (λ e. omega (arith, e, lt)) ∙ bit-before n v lt m k

bit-behind : (n v m k : ℕ) → n + m ≤ v → bit (cleared n m k) v ≡ bit k v
bit-behind n v zero k le = refl
bit-behind n v (suc m) k le = bit-set_other (cleared n m k) (n + m) v false (λ e. omega (arith, e, le)) ∙ bit-behind n v m k (omega arith)

bit-within : (n v : ℕ) → n ≤ v → (m k : ℕ) → v < n + m → bit (cleared n m k) v ≡ false
bit-within n v le zero k lt = absurd (omega arith)
bit-within n v le (suc m) k lt = elim (cases_eq v (n + m)) [
  | inl e ↦ ap (bit (cleared n (suc m) k)) e ∙ bit-set_same (cleared n m k) (n + m) false
  | inr ne ↦ bit-set_other (cleared n m k) (n + m) v false ne ∙ bit-within n v le m k (omega arith)
]

below_power : (k : ℕ) → k < 2 ^ k
below_power zero = pow_pos 0
below_power (suc k) = omega (arith, below_power k, pow-suc 2 k)

bit-over : (k v : ℕ) → k ≤ v → bit k v ≡ false
bit-over k v le = ap (λ x. eqb x 1) (bit_at_above k k v (below_power k) le)

ones-over : (n v : ℕ) → n ≤ v → bit (ones n) v ≡ false
unfolding ones
ones-over zero v le = ap (λ x. eqb x 1) (bit_at-zero v)
ones-over (suc n) v le = bit-set_other (ones n) n v true (λ e. omega (arith, e, le)) ∙ ones-over n v (omega arith)

all_ones : (n k : ℕ) → ((v : ℕ) → v < n → bit k v ≡ true) → cleared n k k ≡ ones n
all_ones n k each = same_bits (cleared n k k) (ones n) (λ v. elim (cases_lt v n) [
  | inl lt ↦ bit-before n v lt k k ∙ each v lt ∙ sym (bit-ones n v lt)
  | inr ge ↦ elim (cases_lt v (n + k)) [
    | inl lt ↦ bit-within n v ge k k lt ∙ sym (ones-over n v ge)
    | inr over ↦ bit-behind n v k k over ∙ bit-over k v (omega arith) ∙ sym (ones-over n v ge)
  ]
])

pub true_on_ones : (n : ℕ) (f : ℕ → Bool) → IsOf n f → f (ones n) ≡ true → (k : ℕ) → ((v : ℕ) → v < n → bit k v ≡ true) → f k ≡ true
true_on_ones n f of at k each = sym (value-cleared n f of k k) ∙ ap f (all_ones n k each) ∙ at
