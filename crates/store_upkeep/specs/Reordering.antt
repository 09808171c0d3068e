-- What a swap of two neighbouring levels leaves of a store.
use Rattle.std.specs.Prelude.{◌≡◌, ℕ, ◌+◌, ◌<◌, ◌≤◌, Result, Ok, Err}
use Rattle.function_laws.specs.declared.history.Call.{Call}
use Rattle.function_laws.specs.declared.history.Call.TheVariants.{Swap, SwapElements}
use Rattle.function_laws.specs.declared.orders.Order.{Order}
use Rattle.function_laws.specs.declared.orders.Order.TheVariants.{Variables, Elements}
use Rattle.function_laws.specs.EntryOrders.{orders_done}
use Rattle.function_laws.specs.Sizes.{Orders}
use Rattle.node_store.specs.Contents.{Content, used_slots}
use Rattle.node_store.specs.Changes.{After}
use Rattle.dead_sweep.specs.declared.sweeping.Swept.{Swept}
use Rattle.dead_sweep.specs.Swept.{IsSwept}
use Rattle.level_swap.specs.Swaps.{IsSwapped, needed}
use Rattle.store_upkeep.specs.declared.reordering.Crowded.{Crowded}

-- the call that exchanges a level of an order and the next
abbrev pub swap_call : Order → ℕ → Call
swap_call Variables level = Swap level
swap_call Elements level = SwapElements level

-- the numbers of a store in which there is no room for it
pub record IsCrowded (order : Order) (level : ℕ) (w : Content) (crowded : Crowded) : Type 0 where
  pub in_use : crowded.in_use ≡ used_slots w
  pub need : crowded.need ≡ needed w order level
  pub full : w.limit < crowded.in_use + crowded.need

-- The two were exchanged exactly where there was room. Else nothing changed.
abbrev pub IsReordered : ((ℕ → ℕ) → (ℕ → ℕ) → Type 0) → Order → ℕ → Content → Content → Result (Unit {0}) Crowded → Type 0
IsReordered others order level old new (Ok done) = (used_slots old + needed old order level ≤ old.limit) × IsSwapped others order level old new
IsReordered others order level old new (Err crowded) = After others old new × IsCrowded order level old crowded

-- A sweep left the store that was swapped.
pub record Reorders (others : (ℕ → ℕ) → (ℕ → ℕ) → Type 0) (order : Order) (level : ℕ) (old new : Content) (done : Result (Unit {0}) Crowded) : Type 0 where
  pub swept : Swept
  pub between : Content
  pub is_swept : IsSwept others old between swept
  pub reordered : IsReordered others order level between new done

-- the orders that are left
abbrev pub orders_left : Order → ℕ → Orders → Result (Unit {0}) Crowded → Orders
orders_left order level orders (Ok done) = orders_done orders (swap_call order level)
orders_left order level orders (Err crowded) = orders
