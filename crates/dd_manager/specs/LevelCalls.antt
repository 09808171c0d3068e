-- What comes of a call on the levels of an order.
use Rattle.std.specs.Prelude.{◌≡◌, ◌⊎◌, ◌+◌, ◌<◌, ◌≤◌, ℕ, pos, length, Result, Ok, Err}
use Rattle.function_laws.specs.declared.orders.Order.{Order}
use Rattle.function_laws.specs.SiftedOrders.{with_order}
use Rattle.function_laws.specs.Sizes.{in_order}
use Rattle.group_sift.specs.declared.sifting.Sifted.{Sifted}
use Rattle.group_sift.specs.Sifts.{IsSifted}
use Rattle.group_sift.specs.Turns.{one_block}
use Rattle.node_slots.specs.Held.{Alone}
use Rattle.node_slots.specs.Wholes.{content_view}
use Rattle.store_upkeep.specs.declared.reordering.Crowded.{Crowded}
use Rattle.store_upkeep.specs.Lasting.{orders_of}
use Rattle.store_upkeep.specs.Reordering.{Reorders, orders_left}
use Rattle.store_upkeep.specs.Sifting.{sifted_of}
use Rattle.store_rows.specs.Levels.{StandsAt}
use Rattle.store_rows.specs.RowStores.{RowStoreView, Same}
use Rattle.dd_manager.specs.declared.requests.Answer.{Answer}
use Rattle.dd_manager.specs.declared.requests.LevelCall.{LevelCall}
use Rattle.dd_manager.specs.declared.requests.LevelCall.TheVariants as calls
use Rattle.dd_manager.specs.declared.requests.Request.{Request}
use Rattle.dd_manager.specs.declared.statuses.Status.{Status}
use Rattle.dd_manager.specs.declared.statuses.Status.TheVariants as statuses
use Rattle.dd_manager.specs.Answers.{HasValue, Says}

-- how many levels an order has
abbrev pub count_of : RowStoreView → Order → ℕ
count_of d order = length (in_order (orders_of d.store) order)

-- no row came or went, each has its function, and both orders stay
abbrev pub Stays : RowStoreView → RowStoreView → Type 0
Stays was now = Same was now × (orders_of now.store ≡ orders_of was.store)

-- the level of a variable, or of an element
abbrev pub TellsLevel : Order → RowStoreView → ℕ → RowStoreView → Answer → Type 0
TellsLevel order was n now a = Stays was now × (
    ((count_of was order ≤ n) × Says statuses.Range a)
    ⊎ ((level : ℕ) × StandsAt (orders_of was.store) order n level × HasValue (pos level) a)
    )

-- what stands at a level
abbrev pub TellsAt : Order → RowStoreView → ℕ → RowStoreView → Answer → Type 0
TellsAt order was level now a = Stays was now × (
    ((count_of was order ≤ level) × Says statuses.Range a)
    ⊎ ((n : ℕ) × StandsAt (orders_of was.store) order n level × HasValue (pos n) a)
    )

-- The status of a swap: full where there was no room for it.
abbrev pub swap_status : Result (Unit {0}) Crowded → Status
swap_status (Ok done) = statuses.Done
swap_status (Err crowded) = statuses.Full

-- A sweep and, where there was room, the swap, of a store that has the rows and the orders; each row keeps its function.
pub record Swaps (order : Order) (level : ℕ) (was now : RowStoreView) (done : Result (Unit {0}) Crowded) : Type 0 where
  pub start : RowStoreView
  pub stays : Stays was start
  pub reorders : Reorders Alone order level (content_view start.store) (content_view now.store) done
  pub same : Same was now
  pub orders : orders_of now.store ≡ orders_left order level (orders_of was.store) done

-- a level and the next are exchanged
abbrev pub SwapsBy : Order → RowStoreView → ℕ → RowStoreView → Answer → Type 0
SwapsBy order was level now a =
    ((count_of was order ≤ level + 1) × Stays was now × Says statuses.Range a)
    ⊎ ((level + 1 < count_of was order) × ((done : Result (Unit {0}) Crowded) × Swaps order level was now done × Says (swap_status done) a))

-- The sift, in one block, of a store that has the rows and the orders; each row keeps its function.
pub record Sifts (order : Order) (was now : RowStoreView) (sifted : Sifted) : Type 0 where
  pub start : RowStoreView
  pub stays : Stays was start
  pub is : IsSifted Alone order (one_block (count_of was order)) (content_view start.store) (content_view now.store) sifted
  pub same : Same was now
  pub orders : orders_of now.store ≡ with_order (orders_of was.store) order (sifted_of order (one_block (count_of was order)) start.store).order

-- an order is sifted
abbrev pub SiftsBy : Order → RowStoreView → RowStoreView → Answer → Type 0
SiftsBy order was now a = (Stays was now × Says statuses.Memory a) ⊎ ((sifted : Sifted) × Sifts order was now sifted × HasValue (pos sifted.after) a)

abbrev pub ServesLevel : LevelCall → Order → RowStoreView → Request → RowStoreView → Answer → Type 0
ServesLevel calls.LevelOf order was r now a = TellsLevel order was r.number now a
ServesLevel calls.At order was r now a = TellsAt order was r.number now a
ServesLevel calls.Swap order was r now a = SwapsBy order was r.number now a
ServesLevel calls.Sift order was r now a = SiftsBy order was now a
