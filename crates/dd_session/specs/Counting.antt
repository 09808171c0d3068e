-- What others may do to counts.
use Rattle.std.specs.Prelude.{◌≡◌, ℕ}

-- they change them as they like, but one that was 0 stays 0
abbrev pub ZeroStays : (ℕ → ℕ) → (ℕ → ℕ) → Type 0
ZeroStays old new = (s : ℕ) → old s ≡ 0 → new s ≡ 0
