-- Functions that agree at the assignments of n variables.
use Rattle.std.specs.Prelude.{◌≡◌, ℕ, ◌^◌, ◌<◌, Bool, List, [], ◌∷◌}

-- the two have one value at each assignment of n variables
abbrev pub IsSame : ℕ → (ℕ → Bool) → (ℕ → Bool) → Type 0
IsSame n f g = (k : ℕ) → k < 2 ^ n → f k ≡ g k

-- two lists are as long as each other, and the functions at each place are the same
abbrev pub AreSame : ℕ → List (ℕ → Bool) → List (ℕ → Bool) → Type 0
AreSame n [] [] = Unit {0}
AreSame n (f ∷ fs) (g ∷ gs) = IsSame n f g × AreSame n fs gs
AreSame n _ _ = ⊥
