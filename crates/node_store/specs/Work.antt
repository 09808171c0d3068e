-- What an operator may store: parts of its work.
use Rattle.std.specs.Prelude.{◌≡◌, ℕ, ◌<◌, Bool, true, Option, Some, ◌⊎◌}
use Rattle.edge_bits.specs.declared.edges.Kind.{Kind}
use Rattle.function_laws.specs.Kinds.{Denoted, ValueOf, function_of, Lacks, part_at, opposite}
use Rattle.node_store.specs.Views.{View, IsVariable, Grown}

-- a function's cofactors (of a family subset1 and subset0) by the first variables of its order, taken one after another from the top
pub data IsPart (k : Kind) (w : View) (f : ℕ → ValueOf k) : (ℕ → ValueOf k) → Type 0 where
  whole : IsPart k w f f
  cut : (g : ℕ → ValueOf k) (v : ℕ) (b : Bool) → IsVariable k w v
      → ((u : ℕ) → IsVariable k w u → w.level u < w.level v → Lacks k g u) → IsPart k w f g → IsPart k w f (part_at k g v b)

-- it is, up to complement, a part of a function of the work
pub record IsWork (w : View) (Work : Denoted → Type 0) (o : Option Denoted) : Type 0 where
  pub kind : Kind
  pub root : ℕ → ValueOf kind
  pub part : ℕ → ValueOf kind
  pub asked : Work (function_of kind root)
  pub is_part : IsPart kind w root part
  pub is : (o ≡ Some (function_of kind part)) ⊎ (o ≡ Some (opposite (function_of kind part)))

-- what was made is part of the work
abbrev pub Adds : (Denoted → Type 0) → View → View → Type 0
Adds Work old new = (s : ℕ) → new.made s ≡ true → (old.made s ≡ true) ⊎ IsWork new Work (new.content s)

-- what an operator does to a store while its root operands denote: the work is told from the view
pub record Moves (Roots : View → Type 0) (Work : View → Denoted → Type 0) (old new : View) : Type 0 where
  pub grown : Grown old new
  pub work : Roots old → Adds (Work new) old new
