-- The order words of an exchange of two neighbours.
use Rattle.std.specs.Prelude.{ℕ, ◌+◌, List, [], ◌∷◌, slice_index}
use Rattle.function_laws.specs.declared.orders.Order.{Order}
use Rattle.function_laws.specs.declared.orders.Order.TheVariants.{Variables, Elements}
use Rattle.function_laws.specs.Sizes.{Orders, in_order}
use Rattle.words_rule.specs.Layout.{Shape, places}

-- the position of a level in both orders
abbrev pub position : Shape → Order → ℕ → ℕ
position z Variables level = level
position z Elements level = z.variables + level

-- a variable or element among both, the elements behind the variables
abbrev pub item : Shape → Order → ℕ → ℕ
item z Variables u = u
item z Elements u = z.variables + u

-- the order words that are due once the first of an exchange is stored
abbrev pub dues_of : Shape → Orders → Order → ℕ → List ℕ
dues_of z orders which level =
    (position z which level + 1) ∷ (places z + item z which (slice_index (in_order orders which) level)) ∷ (places z + item z which (slice_index (in_order orders which) (level + 1))) ∷ []
