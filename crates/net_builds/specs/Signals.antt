-- The rows of signals, and the functions that are made of them.
use Rattle.std.specs.Prelude.{◌≡◌, ℕ, ◌≤◌, Bool, List, [], ◌∷◌, All, Option, Some, slice_get}
use Rattle.function_laws.specs.declared.history.Name.{Name}
use Rattle.net_builds.specs.Standings.{Holds, IsHeld, Standing, Works}

-- each of these signals has a row
abbrev pub HaveRows : Standing → List (Option Name) → List ℕ → Type 0
HaveRows s rows signals = All (λ signal. (name : Name) × (slice_get rows signal ≡ Some (Some name)) × IsHeld s name) signals

-- and each row stands for the signal's function
abbrev pub HaveValues : Standing → List (Option Name) → (ℕ → ℕ → Bool) → List ℕ → Type 0
HaveValues s rows values signals = All (λ signal. (name : Name) × (slice_get rows signal ≡ Some (Some name)) × Holds s name (values signal)) signals

-- the names stand for the wanted functions, one after another
abbrev pub AllHold : Standing → List (ℕ → Bool) → List Name → Type 0
AllHold s [] [] = Unit {0}
AllHold s (f ∷ wanted) (name ∷ names) = Holds s name f × AllHold s wanted names
AllHold s _ _ = ⊥

-- The wanted functions were built, and at most so many rows are live.
pub record BuildsAll (wanted : List (ℕ → Bool)) (most : ℕ) (old new : Standing) (names : List Name) : Type 0 where
  pub works : Works old new
  pub holds : AllHold new wanted names
  pub rows : new.rows ≤ most
