-- Leaves of ADDs.
use Rattle.std.specs.Prelude.{◌≡◌, ℤ}
use Rattle.edge_bits.specs.declared.edges.Edge.{Edge}
use Rattle.function_laws.specs.Values.{constant}
use Rattle.function_laws.specs.Kinds.{Denoted, AddFunction}
use Rattle.node_store.specs.Views.{View, add_at}

-- both edges denote constants, which are these numbers
pub record AreLeaves (w : View) (f g : Edge) (x y : ℤ) : Type 0 where
  pub first : add_at w f ≡ constant x
  pub second : add_at w g ≡ constant y

-- the work of a call that asks for a number's leaf
abbrev pub value_of_constant : ℤ → Denoted → Type 0
value_of_constant x F = F ≡ AddFunction (constant x)
