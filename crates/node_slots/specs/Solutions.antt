-- When a map from slots to functions satisfies the equations of a store's nodes.
use Rattle.std.specs.Prelude.{◌≡◌, ℕ, ℤ, ◌≤◌, true, Option, Some}
use Rattle.edge_bits.specs.declared.edges.Kind.{Kind}
use Rattle.edge_bits.specs.declared.words.Node.{Node}
use Rattle.edge_bits.specs.declared.words.Word.{Word}
use Rattle.edge_bits.specs.declared.words.Word.TheVariants.{Inner, Leaf}
use Rattle.edge_bits.specs.Permanent.{zero_slot}
use Rattle.function_laws.specs.Values.{constant}
use Rattle.function_laws.specs.Families.{empty, base}
use Rattle.function_laws.specs.Kinds.{Denoted, BddFunction, AddFunction, ZddFamily, ValueOf, function_of, joined_at, Lacks, flipped}
use Rattle.node_store.specs.Views.{IsProper}

-- the children of a node have functions that lack its variable, of which the node's function is made
pub record IsSolved (IsOf : Kind → ℕ → Type 0) (map : ℕ → Option Denoted) (s : ℕ) (node : Node) : Type 0 where
  pub kind : Kind
  pub high : ℕ → ValueOf kind
  pub low : ℕ → ValueOf kind
  pub in_range : IsOf kind node.var
  pub high_is : map node.hi ≡ Some (function_of kind high)
  pub low_is : flipped node.lo.complement (map node.lo.index) ≡ Some (function_of kind low)
  pub high_lacks : Lacks kind high node.var
  pub low_lacks : Lacks kind low node.var
  pub proper : IsProper kind high low
  pub is : (f : Denoted) → map s ≡ Some f → f ≡ function_of kind (joined_at kind node.var high low)

-- A map of functions is a solution if it satisfies the equation of each node and leaf. No order of the variables is named, so a
-- store with nodes of two orders has one too.
pub record IsSolution (IsOf : Kind → ℕ → Type 0) (slots : ℕ → Option Word) (map : ℕ → Option Denoted) : Type 0 where
  pub logic_one : map 0 ≡ Some (BddFunction (constant true))
  pub empty_family : map 1 ≡ Some (ZddFamily empty)
  pub base_family : map 2 ≡ Some (ZddFamily base)
  pub used : (s : ℕ) (f : Denoted) → zero_slot ≤ s → map s ≡ Some f → (word : Word) × (slots s ≡ Some word)
  pub leaves : (s : ℕ) (x : ℤ) (f : Denoted) → zero_slot ≤ s → slots s ≡ Some (Leaf x) → map s ≡ Some f → f ≡ AddFunction (constant x)
  pub nodes : (s : ℕ) (node : Node) → zero_slot ≤ s → slots s ≡ Some (Inner node) → IsSolved IsOf map s node
