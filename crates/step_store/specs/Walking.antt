-- What a walk is told of a node, and what it passes on its way.
use Rattle.std.specs.Prelude.{◌≡◌, ℕ, zero, suc, ◌+◌, ◌<◌, List, eqb}
use Rattle.std.specs.List.{IsDistinct}
use Rattle.edge_bits.specs.Permanent.{first_element}
use Rattle.edge_bits.specs.Words.{digit}
use Rattle.edge_bits.specs.Assignments.{bit}
use Rattle.edge_bits.specs.declared.edges.Edge.{Edge}
use Rattle.edge_bits.specs.declared.edges.Kind.{Kind}
use Rattle.edge_bits.specs.declared.edges.Kind.TheVariants.{Bdd, Add, Zdd}
use Rattle.function_laws.specs.Kinds.{ValueOf, Lacks}
use Rattle.function_laws.specs.SessionEntries.{Each}
use Rattle.node_store.specs.declared.grow.Opened.{Opened}
use Rattle.node_store.specs.declared.grow.Opened.TheVariants.{Inner, Leaf}
use Rattle.node_store.specs.Views.{View, Is, IsLeafOf, IsProper, IsVariable, levels, node_values, values_at}

-- A function is that of a node with these children, which lack the node's variable. Nothing is said of levels.
pub record IsJoined (k : Kind) (w : View) (f : ℕ → ValueOf k) (v : ℕ) (hi lo : Edge) : Type 0 where
  pub in_range : IsVariable k w v
  pub hi_is : Is k w hi
  pub lo_is : Is k w lo
  pub is : f ≡ node_values k w v hi lo
  pub hi_lacks : Lacks k (values_at k w hi) v
  pub lo_lacks : Lacks k (values_at k w lo) v
  pub proper : IsProper k (values_at k w hi) (values_at k w lo)

-- what a word tells of an edge to its slot
abbrev pub Tells : (k : Kind) → View → Edge → (ℕ → ValueOf k) → Opened → Type 0
Tells k w e f (Inner v hi lo) = IsJoined k w f v hi lo
Tells k w e f (Leaf x) = IsLeafOf k e f x

-- the variable number of a variable or an element
abbrev pub name_at : Kind → ℕ → ℕ
name_at Bdd u = u
name_at Add u = u
name_at Zdd e = first_element + e

-- Variables on which a function depends, or elements that some member has, each once.
pub record AreNeeded (k : Kind) (w : View) (f : ℕ → ValueOf k) (path : List ℕ) : Type 0 where
  pub once : IsDistinct eqb path
  pub within : Each (λ u. u < levels k w) path
  pub needed : Each (λ u. Lacks k f (name_at k u) → ⊥) path

-- how many of the first n bits are 1
abbrev pub ones : ℕ → ℕ → ℕ
ones zero k = 0
ones (suc n) k = ones n k + digit (bit k n)
