-- What a session notes at a place of the history.
use Rattle.std.specs.Prelude.{◌≡◌, ℕ, ◌≤◌, List, length, take}
use Rattle.function_laws.specs.declared.history.Entry.{Entry}
use Rattle.function_laws.specs.Tables.{Sizes, Table, opening}
use Rattle.function_laws.specs.Histories.{table_after}
use Rattle.function_laws.specs.Sizes.{Orders}
use Rattle.function_laws.specs.SessionEntries.{Each}
use Rattle.function_laws.specs.EntryOrders.{opening_orders, orders_from}
use Rattle.function_laws.specs.Widening.{AgreesAt}
use Rattle.seat_guard.specs.declared.view.Noted.{Noted}
use Rattle.seat_guard.specs.Known.{sizes_for}
use Rattle.seat_guard.specs.Views.{stands_for}

-- both orders, as the note has them
abbrev pub orders_in : Noted → Orders
orders_in note = record { variables = note.variable_order; elements = note.element_order }

-- the table has the variables and elements of the note, and the note's rows of the session
pub record AgreesWith (session : ℕ) (note : Noted) (t : Table) : Type 0 where
  pub sizes_are : t.sizes ≡ sizes_for note.vars note.elements
  pub rows_are : AgreesAt t.sizes (stands_for note.rows) (t.live session)

-- what a session noted is what the entries below the note's place leave: the orders, the numbers of variables and elements, and its rows
pub record IsNotedIn (start : Sizes) (log : List Entry) (session : ℕ) (note : Noted) : Type 0 where
  pub within : note.place ≤ length log
  pub orders_are : orders_from (opening_orders start) (take note.place log) ≡ orders_in note
  pub agrees : AgreesWith session note (table_after (opening start) (take note.place log))

-- what a session noted, and what there was at the places of its calls
pub record AreNotedIn (start : Sizes) (log : List Entry) (session : ℕ) (notes calls : List Noted) : Type 0 where
  pub noted : Each (IsNotedIn start log session) notes
  pub placed : Each (IsNotedIn start log session) calls
