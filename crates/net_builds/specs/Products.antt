-- The functions that are made for a cover, and the names that come in place of others.
use Rattle.std.specs.Prelude.{ℕ, ◌≤◌, Bool, ◌&&◌, List}
use Rattle.std.specs.List.{list_any}
use Rattle.cover_nets.specs.declared.net.Cube.{Cube}
use Rattle.cover_nets.specs.declared.net.Literal.{Literal}
use Rattle.cover_nets.specs.Networks.{fits, matches}
use Rattle.function_laws.specs.declared.history.Name.{Name}
use Rattle.net_builds.specs.Standings.{Holds, KeepsOthers, Standing, Works}

-- The name stands for the function, in place of one that is gone, or of itself. Each other name that was given before stands for what it stood for.
pub record Replaces (old new : Standing) (gone name : Name) (f : ℕ → Bool) : Type 0 where
  pub works : Works old new
  pub holds : Holds new name f
  pub newer : gone.generation ≤ name.generation
  pub kept : KeepsOthers old new gone
  pub rows : new.rows ≤ old.rows

-- whether the literal fits the value of f
abbrev pub fit : Literal → (ℕ → Bool) → ℕ → Bool
fit literal f k = fits literal (f k)

-- whether the literal fits the value of f, and g is 1
abbrev pub with_fit : Literal → (ℕ → Bool) → (ℕ → Bool) → ℕ → Bool
with_fit literal f g k = fits literal (f k) && g k

-- whether a row of a cover matches, where the signals have these functions
abbrev pub match_at : (ℕ → ℕ → Bool) → List ℕ → List Literal → ℕ → Bool
match_at values ins literals k = matches (λ signal. values signal k) literals ins

-- whether one of them does
abbrev pub match_any : (ℕ → ℕ → Bool) → List ℕ → List Cube → ℕ → Bool
match_any values ins cubes k = list_any (λ cube. matches (λ signal. values signal k) cube.literals ins) cubes
