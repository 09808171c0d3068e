-- Tasks of a function in which functions are put for variables, all at once.
use Rattle.std.specs.Prelude.{◌≡◌, ℕ, ◌<◌, ◌≤◌, ◌==◌, Bool, true, List, Option, Some, None, map, find, max}
use Rattle.std.specs.List.{All}
use Rattle.edge_bits.specs.declared.edges.Edge.{Edge}
use Rattle.edge_bits.specs.declared.edges.Kind.TheVariants.{Bdd}
use Rattle.function_laws.specs.Makings.{are_distinct}
use Rattle.function_laws.specs.Values.{composed_at_once, projection}
use Rattle.function_laws.specs.Kinds.{Denoted, BddFunction}
use Rattle.node_store.specs.Views.{View, Denotes, Is, IsVariable, Permanent, Splits, bdd_at}
use Rattle.node_store.specs.Work.{IsPart}
use Rattle.node_store.specs.declared.operator.Task.{Task}

-- a variable with the function that is put for it, and what this function is
abbrev pub function_with : View → ℕ × Edge → ℕ × (ℕ → Bool)
function_with w pair = (pair.0, bdd_at w pair.1)

abbrev pub functions_of : View → List (ℕ × Edge) → List (ℕ × (ℕ → Bool))
functions_of w pairs = map (function_with w) pairs

abbrev pub IsPair : View → ℕ × Edge → Type 0
IsPair w pair = IsVariable Bdd w pair.0 × Is Bdd w pair.1

-- the function and the pairs are of the store, and no variable stands twice
pub record AreSubstituted (w : View) (f : Edge) (pairs : List (ℕ × Edge)) : Type 0 where
  pub edge : Is Bdd w f
  pub each : All (IsPair w) pairs
  pub distinct : are_distinct (map (λ pair. pair.0) pairs) ≡ true

abbrev pub substituted_at : View → Edge → List (ℕ × Edge) → ℕ → Bool
substituted_at w f pairs = composed_at_once (bdd_at w f) (functions_of w pairs)

-- what a call stores: its value, also with any part of the function in its place
abbrev pub value_of_vector_compose : Edge → List (ℕ × Edge) → View → Denoted → Type 0
value_of_vector_compose f pairs w F = (a : ℕ → Bool) × (IsPart Bdd w (bdd_at w f) a × (F ≡ BddFunction (composed_at_once a (functions_of w pairs))))

-- the variable is not below the level; there is a level
abbrev pub ReachesDownTo : View → Option ℕ → ℕ × Edge → Type 0
ReachesDownTo w (Some level) pair = w.level pair.0 ≤ level
ReachesDownTo w None pair = ⊥

-- all of the variables stand above the level; there may be none
abbrev pub IsBelowAll : Option ℕ → ℕ → Type 0
IsBelowAll (Some lowest) level = lowest < level
IsBelowAll None level = Unit {0}

-- the lower one of two levels, of which the first may be missing
abbrev pub lower_of : Option ℕ → ℕ → ℕ
lower_of (Some first) second = max first second
lower_of None second = second

-- a task of the call with this function and these pairs, of which none is below the level
pub record SubstituteDue (f : Edge) (pairs : List (ℕ × Edge)) (lowest : Option ℕ) (w : View) (t : Task) : Type 0 where
  pub permanent : Permanent w
  pub root : AreSubstituted w f pairs
  pub reach : All (ReachesDownTo w lowest) pairs
  pub edge : Is Bdd w t.f
  pub part : IsPart Bdd w (bdd_at w f) (bdd_at w t.f)

abbrev pub SubstituteAnswers : List (ℕ × Edge) → View → Task → Edge → Type 0
SubstituteAnswers pairs w t e = Denotes Bdd w e (substituted_at w t.f pairs)

pub record SubstituteSplits (w : View) (t : Task) (x : ℕ) (hi lo : Task) : Type 0 where
  pub in_range : IsVariable Bdd w x
  pub splits : Splits Bdd w x (bdd_at w t.f) hi.f lo.f

-- the edge that is put for a variable; for one for which none is put its projection
abbrev pub IsImageOr : View → Option (ℕ × Edge) → ℕ → Edge → Type 0
IsImageOr w (Some pair) x e = e ≡ pair.1
IsImageOr w None x e = Denotes Bdd w e (projection x)

abbrev pub IsImage : View → List (ℕ × Edge) → ℕ → Edge → Type 0
IsImage w pairs x e = IsImageOr w (find (λ pair. pair.0 == x) pairs) x e
