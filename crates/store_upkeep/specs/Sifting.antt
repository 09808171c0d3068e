-- What a sift finds in a store, and the order that it leaves.
use Rattle.std.specs.Prelude.{ℕ, ◌==◌, Bool, not, List}
use Rattle.function_laws.specs.declared.orders.Order.{Order}
use Rattle.function_laws.specs.Kinds.{Denoted}
use Rattle.function_laws.specs.SiftedOrders.{Block, SiftedOrder, sifted}
use Rattle.node_store.specs.Sweeps.{root_functions}
use Rattle.node_slots.specs.Stores.{Plain, count_at}
use Rattle.node_slots.specs.Wholes.{content_view}
use Rattle.store_upkeep.specs.Lasting.{orders_of}

-- a row holds the slot
abbrev pub is_counted : Plain → ℕ → Bool
is_counted p s = not (count_at p s == 0)

-- what such slots denote, by rising slot
abbrev pub counted_functions : Plain → List Denoted
counted_functions p = root_functions (content_view p) (is_counted p)

-- what sifting leaves by its definition
abbrev pub sifted_of : Order → List Block → Plain → SiftedOrder
sifted_of order blocks p = sifted (orders_of p) order blocks (content_view p).limit (counted_functions p)
