-- Functions of the first n variables are one if the lists of their 2 ^ n values are.
use Rattle.std.proofs.Common.{◌≡◌, ℕ, zero, suc, ◌+◌, ◌^◌, ◌<◌, ◌≤◌, Bool, true, false, ⊎_elim, sym, ◌∙◌, arith, subst, pow_mono}
use Rattle.std.proofs.Math.Nat.{pow-suc}
use Rattle.std.specs.Int.{bit_at}
use Rattle.std.proofs.lemmas.Nat.{pow_pos}
use Rattle.std.proofs.lemmas.Nat.Bits.{bit_at_above}
use Rattle.std.proofs.lemmas.Bool.{cases_eq}
use Rattle.edge_bits.specs.Assignments.{set_bit}
use Rattle.edge_bits.proofs.AssignmentLemmas.{bit_at-set_same, bit_at-set_other, below_from_bits}
use Rattle.function_laws.specs.Lists.{list_of}
use Rattle.function_laws.specs.Values.{IsOf, IsFree, cofactor}
use Rattle.function_laws.specs.Restricting.{IsFreeBelow}
use Rattle.function_laws.proofs.ListLemmas.{same-list_of}
use Rattle.function_laws.proofs.ValueLemmas.{everywhere, IsFree-same_cofactors, IsFree-cofactor_other}

-- without its top bit a number is below the power
clear_top : (m k : ℕ) → k < 2 ^ suc m → set_bit k m false < 2 ^ m
clear_top m k below = below_from_bits m (set_bit k m false) (λ i from.
    ⊎_elim (λ top. subst (λ v. bit_at (set_bit k m false) v ≡ 0) (sym top) (bit_at-set_same k m false))
    (λ other. bit_at-set_other k m i false other ∙ bit_at_above k (suc m) i below (omega arith)) (cases_eq i m))

below_power : (k : ℕ) → k < 2 ^ k
below_power zero = pow_pos 0
below_power (suc k) = omega (arith, below_power k, pow-suc 2 k)

module _ {X : Type 0} (n : ℕ) (f g : ℕ → X) (of_f : IsOf n f) (of_g : IsOf n g) (same : (k : ℕ) → k < 2 ^ n → f k ≡ g k) where
  agree_up_to : (j k : ℕ) → k < 2 ^ (j + n) → f k ≡ g k
  agree_up_to zero k below = same k (subst (λ m. k < 2 ^ m) (omega arith) below)
  agree_up_to (suc j) k below =
      let lower : set_bit k (j + n) false < 2 ^ (j + n) = clear_top (j + n) k (subst (λ m. k < 2 ^ m) (omega arith) below) in
      sym (of_f (j + n) (omega arith) k false) ∙ agree_up_to j (set_bit k (j + n) false) lower ∙ of_g (j + n) (omega arith) k false

  pub same_everywhere : f ≡ g
  same_everywhere = everywhere f g (λ k.
      let high : 2 ^ k ≤ 2 ^ (k + n) = pow_mono (omega arith) in agree_up_to k k (omega (arith, below_power k, high)))

-- the same exactly if the lists are
pub same-from_lists : {X : Type 0} (n : ℕ) (f g : ℕ → X) → IsOf n f → IsOf n g → list_of (2 ^ n) f ≡ list_of (2 ^ n) g → f ≡ g
same-from_lists n f g of_f of_g e = same_everywhere n f g of_f of_g (same-list_of (2 ^ n) f g e)

-- a function of n variables that doesn't depend on v below 2 ^ n doesn't depend on it
pub IsFree-from_below : (n v : ℕ) (f : ℕ → Bool) → IsOf n f → v < n → IsFreeBelow (2 ^ n) f v → IsFree f v
IsFree-from_below n v f of_f within free =
    let part : (b : Bool) → IsOf n (cofactor f v b) = λ b u from. IsFree-cofactor_other f u v b (omega arith) (of_f u from) in
    IsFree-same_cofactors f v (same_everywhere n (cofactor f v true) (cofactor f v false) (part true) (part false) free)
