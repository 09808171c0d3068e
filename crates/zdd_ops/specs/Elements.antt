-- Elements, and the families of one.
use Rattle.edge_bits.specs.Permanent.{first_element}
use Rattle.std.specs.Prelude.{◌≡◌, ℕ, ◌<◌, ℤ}
use Rattle.function_laws.specs.Families.{single}
use Rattle.function_laws.specs.Kinds.{Denoted, ZddFamily}
use Rattle.edge_bits.specs.declared.edges.Edge.{Edge}
use Rattle.edge_bits.specs.declared.edges.Kind.TheVariants.{Zdd}
use Rattle.node_store.specs.Views.{View, IsLeaf, family_at}

-- the number of an element of the store; a store names it by as many more as the first element's number, so that a variable's number is not meant
pub record IsElement (w : View) (e : ℕ) : Type 0 where
  pub few : e < first_element
  pub in_range : e < w.elements

-- the work of a call that asks for the family of one element
abbrev pub value_of_single : ℕ → Denoted → Type 0
value_of_single e F = F ≡ ZddFamily (single e)

-- both edges lead to leaves
abbrev pub AreFamilyLeaves : View → Edge → Edge → Type 0
AreFamilyLeaves w f g = ((x : ℤ) × IsLeaf Zdd w f (family_at w f) x) × ((y : ℤ) × IsLeaf Zdd w g (family_at w g) y)
