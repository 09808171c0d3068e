-- Products of variables, and the variables that are marked for one.
use Rattle.std.specs.Prelude.{◌≡◌, ℕ, ◌<◌, Bool, true, List, [], ◌∷◌, Option, Some, None, slice_index_or}
use Rattle.edge_bits.specs.declared.edges.Edge.{Edge}
use Rattle.edge_bits.specs.declared.edges.Kind.TheVariants.{Bdd}
use Rattle.function_laws.specs.Cubes.{cube_of}
use Rattle.function_laws.specs.Values.{conjunction, constant, projection}
use Rattle.node_store.specs.Views.{View, Denotes, IsVariable}

-- the edge denotes the cube of the variables, their product
abbrev pub IsCubeOf : View → Edge → List ℕ → Type 0
IsCubeOf w e vars = Denotes Bdd w e (cube_of vars)

-- the product of the variables that are marked
abbrev pub marked_product : List (Option ℕ) → ℕ → Bool
marked_product [] = constant true
marked_product (None ∷ marks) = marked_product marks
marked_product (Some v ∷ marks) = conjunction (projection v) (marked_product marks)

-- the variable stands at the level, and no other does
pub record IsMark (w : View) (level v : ℕ) : Type 0 where
  pub in_range : IsVariable Bdd w v
  pub here : w.level v ≡ level
  pub within : level < w.vars
  pub alone : (u : ℕ) → IsVariable Bdd w u → w.level u ≡ level → u ≡ v

-- each level is marked with the variable that stands there, or not at all
abbrev pub AreMarks : View → List (Option ℕ) → Type 0
AreMarks w marks = (j v : ℕ) → slice_index_or marks j None ≡ Some v → IsMark w j v

-- no level is marked
abbrev pub AreNoMarks : List (Option ℕ) → Type 0
AreNoMarks marks = (j : ℕ) → slice_index_or marks j None ≡ None
