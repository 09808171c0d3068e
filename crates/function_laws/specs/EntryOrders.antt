-- The orders of the variables and of the elements that the entries of a history leave.
use Rattle.std.specs.Prelude.{ℕ, ◌+◌, List, [], ◌∷◌, ◌++◌, drop, take, slice_index}
use Rattle.std.specs.List.{range_with_len}
use Rattle.function_laws.specs.declared.history.Call.{Call}
use Rattle.function_laws.specs.declared.history.Call.TheVariants.{Swap, SwapElements, Sift, SiftElements, AddVar, AddElement}
use Rattle.function_laws.specs.declared.history.Reply.{Reply}
use Rattle.function_laws.specs.declared.history.Reply.TheVariants.{Done, Numbered}
use Rattle.function_laws.specs.declared.history.Entry.{Entry}
use Rattle.function_laws.specs.Sizes.{Orders}
use Rattle.function_laws.specs.Tables.{Table, Sizes}
use Rattle.function_laws.specs.Histories.{after_entry}

-- the order with the two at a level and the next one exchanged
abbrev pub exchanged : ℕ → List ℕ → List ℕ
exchanged level order = take level order ++ slice_index order (level + 1) ∷ slice_index order level ∷ drop (level + 2) order

-- both orders as a manager opens: 0, 1, 2, .. from the top
abbrev pub opening_orders : Sizes → Orders
opening_orders z = record { variables = range_with_len 0 z.variables; elements = range_with_len 0 z.elements }

-- What a call leaves where it is done: a swap exchanges two neighbours, and a sift leaves the order that its entry tells.
abbrev pub orders_done : Orders → Call → Orders
orders_done orders (Swap level) = record orders { variables = exchanged level orders.variables }
orders_done orders (SwapElements level) = record orders { elements = exchanged level orders.elements }
orders_done orders (Sift told) = record orders { variables = told.order }
orders_done orders (SiftElements told) = record orders { elements = told.order }
orders_done orders _ = orders

-- and where it adds a variable or an element of this number, which comes last
abbrev pub orders_added : Orders → Call → ℕ → Orders
orders_added orders AddVar n = record orders { variables = orders.variables ++ n ∷ [] }
orders_added orders AddElement n = record orders { elements = orders.elements ++ n ∷ [] }
orders_added orders _ n = orders

-- a refused call leaves them, and any other reply
abbrev pub orders_after : Orders → Call → Reply → Orders
orders_after orders call Done = orders_done orders call
orders_after orders call (Numbered name n) = orders_added orders call n
orders_after orders call _ = orders

-- the orders that the entries leave, one after another
abbrev pub orders_from : Orders → List Entry → Orders
orders_from orders [] = orders
orders_from orders (e ∷ es) = orders_from (orders_after orders e.call e.reply) es

-- this is said of each entry, with the table and the orders before it
abbrev pub EachWith : (Table → Orders → Entry → Type 0) → Table → Orders → List Entry → Type 0
EachWith P t orders [] = Unit {0}
EachWith P t orders (e ∷ es) = P t orders e × EachWith P (after_entry t e) (orders_after orders e.call e.reply) es
