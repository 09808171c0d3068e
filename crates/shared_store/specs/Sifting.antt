-- What a sift finds of what all share, and the order that it leaves.
use Rattle.std.specs.Prelude.{ℕ, ◌==◌, Bool, not, List, map}
use Rattle.function_laws.specs.declared.history.Call.{Call}
use Rattle.function_laws.specs.declared.history.Call.TheVariants.{Sift, SiftElements}
use Rattle.function_laws.specs.declared.history.Sifting.{Sifting}
use Rattle.function_laws.specs.declared.orders.Order.{Order}
use Rattle.function_laws.specs.declared.orders.Order.TheVariants.{Variables, Elements}
use Rattle.function_laws.specs.Kinds.{Denoted}
use Rattle.function_laws.specs.SiftedOrders.{Block, SiftedOrder, sifted}
use Rattle.node_store.specs.Sweeps.{root_functions}
use Rattle.node_slots.specs.Wholes.{content_view}
use Rattle.shared_store.specs.declared.shared.Shared.{Shared}
use Rattle.shared_store.specs.Sharing.{count, orders, view_of, whole_of}

-- the call that sifts an order
abbrev pub sift_call : Order → Sifting → Call
sift_call Variables told = Sift told
sift_call Elements told = SiftElements told

-- a row or a cell holds the slot
abbrev pub is_counted : Shared → ℕ → Bool
is_counted x s = not (count x s == 0)

-- what such slots denote, by rising slot
abbrev pub counted_functions : Shared → List Denoted
counted_functions x = root_functions (content_view x.store) (is_counted x)

-- what sifting leaves by its definition
abbrev pub sifted_of : Order → List Block → Shared → SiftedOrder
sifted_of order blocks x = sifted (orders x) order blocks (content_view x.store).limit (counted_functions x)

-- what is told of it: both orders as they were, the functions as whole lists, and the order that is left
abbrev pub sifting_of : Order → List Block → Shared → Sifting
sifting_of order blocks x = record {
  variables = (orders x).variables;
  elements = (orders x).elements;
  functions = map (whole_of (view_of x)) (counted_functions x);
  order = (sifted_of order blocks x).order;
}
