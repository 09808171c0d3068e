-- Irredundant covers between two functions (Minato 1993), as families of literals: element 2 v is the variable v, 2 v + 1 its complement.
use Rattle.std.specs.Prelude.{◌≡◌, ℕ, ◌+◌, ◌*◌, ◌^◌, ◌<◌, ◌≤◌, ◌==◌, Bool, true, false, not, ◌&&◌, ◌||◌}
use Rattle.edge_bits.specs.Assignments.{bit, set_bit}
use Rattle.function_laws.specs.Lists.{any_below, all_below}

-- a combination's literals all fit the bits of k, over n variables; elements from 2 n on are passed over
abbrev pub fits : ℕ → ℕ → ℕ → Bool
fits n c k = all_below n (λ v. (not (bit c (2 * v)) || bit k v) && (not (bit c (2 * v + 1)) || not (bit k v)))

-- the function of a cover of n variables and m elements: some combination fits
unfoldable pub cover_value : ℕ → ℕ → (ℕ → Bool) → ℕ → Bool
cover_value n m p k = any_below (2 ^ m) (λ c. p c && fits n c k)

-- the family without one combination
abbrev pub but : (ℕ → Bool) → ℕ → ℕ → Bool
but p c a = p a && not (a == c)

-- The family covers: it is true where the lower bound is, and false where the upper one is; no combination and no literal of one can be left out.
pub record IsIrredundant (n m : ℕ) (lower upper p : ℕ → Bool) : Type 0 where
  pub below : (c : ℕ) → p c ≡ true → c < 2 ^ m
  pub literals : (c e : ℕ) → p c ≡ true → 2 * n ≤ e → bit c e ≡ false
  pub reaches : (k : ℕ) → k < 2 ^ n → lower k ≡ true → cover_value n m p k ≡ true
  pub stays : (k : ℕ) → k < 2 ^ n → cover_value n m p k ≡ true → upper k ≡ true
  pub consistent : (c v : ℕ) → p c ≡ true → bit c (2 * v) ≡ true → bit c (2 * v + 1) ≡ true → ⊥
  pub needs_each : (c : ℕ) → p c ≡ true → (k : ℕ) × (k < 2 ^ n) × (lower k ≡ true) × (cover_value n m (but p c) k ≡ false)
  pub needs_literals : (c e : ℕ) → p c ≡ true → bit c e ≡ true → (k : ℕ) × (k < 2 ^ n) × (fits n (set_bit c e false) k ≡ true) × (upper k ≡ false)
