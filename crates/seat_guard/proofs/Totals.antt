-- Sums over lists.
use Rattle.std.proofs.Common.{◌≡◌, ◌≢◌, ℕ, zero, suc, ◌+◌, ◌≤◌, List, [], ◌∷◌, ◌++◌, set, refl, ap, sym, arith}
use mathlib.Core.Option.{some, some-injective, some-ne-none}
use lib.ListN.{get_elem?}
use Rattle.seat_guard.specs.Totals.{total}

module _ {A : Type 0} (f : A → ℕ) where
  pub total-set : (xs : List A) (i : ℕ) (v w : A) → get_elem? xs i ≡ some v → total f (set xs i w) + f v ≡ total f xs + f w
  total-set [] i v w at = absurd (some-ne-none v (sym at))
  total-set (x ∷ xs) zero v w at = let e : f x ≡ f v = ap f (some-injective x v at) in omega (arith, e)
  total-set (x ∷ xs) (suc i) v w at = let r = total-set xs i v w at in omega (arith, r)

  pub total-has : (xs : List A) (i : ℕ) (v : A) → get_elem? xs i ≡ some v → f v ≤ total f xs
  total-has [] i v at = absurd (some-ne-none v (sym at))
  total-has (x ∷ xs) zero v at = let e : f x ≡ f v = ap f (some-injective x v at) in omega (arith, e)
  total-has (x ∷ xs) (suc i) v at = let r = total-has xs i v at in omega (arith, r)

  pub total-two : (xs : List A) (i j : ℕ) (v w : A) → j ≢ i → get_elem? xs i ≡ some v → get_elem? xs j ≡ some w → f v + f w ≤ total f xs
  total-two [] i j v w apart a b = absurd (some-ne-none v (sym a))
  total-two (x ∷ xs) zero zero v w apart a b = absurd (apart refl)
  total-two (x ∷ xs) zero (suc j) v w apart a b = let e : f x ≡ f v = ap f (some-injective x v a) in let r = total-has xs j w b in omega (arith, e, r)
  total-two (x ∷ xs) (suc i) zero v w apart a b = let e : f x ≡ f w = ap f (some-injective x w b) in let r = total-has xs i v a in omega (arith, e, r)
  total-two (x ∷ xs) (suc i) (suc j) v w apart a b = let r = total-two xs i j v w (λ e. apart (ap suc e)) a b in omega (arith, r)

  pub total-append : (xs : List A) (b : A) → total f (xs ++ b ∷ []) ≡ total f xs + f b
  total-append [] b = omega arith
  total-append (x ∷ xs) b = let r = total-append xs b in omega (arith, r)

pub total_le : {A : Type 0} (f g : A → ℕ) (xs : List A) → ((i : ℕ) (x : A) → get_elem? xs i ≡ some x → f x ≤ g x) → total f xs ≤ total g xs
total_le f g [] each = omega arith
total_le f g (x ∷ xs) each = let a = each 0 x refl in let r = total_le f g xs (λ i. each (suc i)) in omega (arith, a, r)
