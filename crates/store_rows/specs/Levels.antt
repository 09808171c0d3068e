-- What stands at the levels of both orders.
use Rattle.std.specs.Prelude.{◌≡◌, ◌<◌, ℕ, length, slice_index}
use Rattle.edge_bits.specs.Permanent.{first_element}
use Rattle.edge_bits.specs.declared.edges.Kind.{Kind}
use Rattle.edge_bits.specs.declared.edges.Kind.TheVariants.{Bdd, Zdd}
use Rattle.function_laws.specs.declared.orders.Order.{Order}
use Rattle.function_laws.specs.declared.orders.Order.TheVariants.{Variables, Elements}
use Rattle.function_laws.specs.Sizes.{Orders, in_order}

-- by which a store knows the first variable, or the first element
abbrev pub first_of : Order → ℕ
first_of Variables = 0
first_of Elements = first_element

-- a kind that goes by the order
abbrev pub kind_of : Order → Kind
kind_of Variables = Bdd
kind_of Elements = Zdd

-- the variable, or the element, with this number stands at the level
abbrev pub StandsAt : Orders → Order → ℕ → ℕ → Type 0
StandsAt orders order number level = (level < length (in_order orders order)) × (slice_index (in_order orders order) level ≡ number)
