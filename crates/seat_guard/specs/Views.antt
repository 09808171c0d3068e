-- What a seat knows, when a table of functions agrees with it, and what a call may tell.
use Rattle.std.specs.Prelude.{◌≡◌, ◌⊎◌, Contains, ℕ, suc, ◌≤◌, if◌then◌else◌, Bool, true, false, List, [], ◌∷◌, ◌++◌, length, slice_get, Option, Some, None, option_map}
use Rattle.edge_bits.specs.declared.limits.TheConstants.{CELLS}
use Rattle.function_laws.specs.declared.history.Name.{Name}
use Rattle.function_laws.specs.declared.history.Function.{Function}
use Rattle.function_laws.specs.declared.history.Function.TheVariants.{Bdd}
use Rattle.function_laws.specs.declared.history.Call.{Call}
use Rattle.function_laws.specs.declared.history.Call.TheVariants as calls
use Rattle.function_laws.specs.declared.history.Reply.TheVariants as replies
use Rattle.function_laws.specs.Tables.{Sizes, Table, same_name}
use Rattle.function_laws.specs.Steps.{IsAllowed, after}
use Rattle.function_laws.specs.SessionEntries.{entry}
use Rattle.function_laws.specs.Sizes.{Orders}
use Rattle.function_laws.specs.EntryOrders.{orders_after}
use Rattle.function_laws.specs.Handovers.{is_numbered}
use Rattle.function_laws.specs.Widening.{AgreesAt, at_sizes}
use Rattle.seat_guard.specs.declared.view.Held.{Held}
use Rattle.seat_guard.specs.declared.view.Row.{Row}
use Rattle.seat_guard.specs.declared.view.Change.{Change}
use Rattle.seat_guard.specs.declared.view.Change.TheVariants.{Nothing, Adds}
use Rattle.seat_guard.specs.declared.view.Telling.{Telling}
use Rattle.seat_guard.specs.declared.view.Leaving.{Leaving}
use Rattle.seat_guard.specs.declared.view.Noted.{Noted}
use Rattle.seat_guard.specs.declared.view.Gone.{Gone}
use Rattle.seat_guard.specs.declared.view.Draws.{Draws}
use Rattle.seat_guard.specs.declared.view.View.{View}
use Rattle.seat_guard.specs.declared.view.Opening.{Opening}
pub use Rattle.seat_guard.specs.Known.{known_at, sizes_for}
use Rattle.seat_guard.specs.Finds.{MayFind}
use Rattle.seat_guard.specs.Phase.{no_shares}
pub use Rattle.seat_guard.specs.Tallies.{cells_after, rows_after, without}
use Rattle.seat_guard.specs.Tallies.{no_counts}

-- what a name stands for
abbrev pub stands_for : List Row → Name → Option Function
stands_for [] name = None
stands_for (row ∷ rows) name = if same_name name row.name then Some row.held.function else stands_for rows name

-- what a name of its own stands for, with the variables and elements that the seat knows
abbrev pub known_as : Draws → Name → Option Function
known_as d name = option_map (known_at d) (stands_for d.rows name)

abbrev pub function_in : Option (Option Held) → Option Function
function_in (Some (Some held)) = Some held.function
function_in _ = None

-- what stands in a cell of the board
abbrev pub cell_in : List (Option Held) → ℕ → Option Function
cell_in cells i = function_in (slice_get cells i)

-- and in a table of these sizes
abbrev pub cell_at : Sizes → List (Option Held) → ℕ → Option Function
cell_at z cells i = option_map (at_sizes z) (cell_in cells i)

-- the table agrees with what a seat knows: its rows, which names it has not given, and, with the turn, the board
pub record Agrees (d : Draws) (t : Table) : Type 0 where
  pub sizes_are : t.sizes ≡ sizes_for d.vars d.elements
  pub live : AgreesAt t.sizes (stands_for d.rows) (t.live d.session)
  pub fresh : (name : Name) → d.adds ≤ name.generation → t.given d.session name ≡ false
  pub cells : d.holds ≡ true → (t.cells ≡ cell_at t.sizes d.cells) × (length d.cells ≡ CELLS)

abbrev pub adds_after : Change → ℕ → ℕ
adds_after (Adds row) n = suc n
adds_after _ n = n

-- both orders, as who has the turn knows them
abbrev pub orders_of : Draws → Orders
orders_of d = record { variables = d.variable_order; elements = d.element_order }

-- it notes what it knows, with these orders, at the place n
abbrev pub note_with : Orders → Draws → ℕ → Noted
note_with orders d n = record { place = n; vars = d.vars; elements = d.elements; rows = d.rows; variable_order = orders.variables; element_order = orders.elements }

-- and as it has the turn
abbrev pub note_of : Draws → ℕ → Noted
note_of d n = note_with (orders_of d) d n

-- what a seat knows after a call at the place n, with what there was at that place: also the orders, which it is told then
abbrev pub told_with : Orders → Draws → ℕ → Telling → Draws
told_with orders d n x = record d {
  rows = rows_after x.change d.rows;
  adds = adds_after x.change d.adds;
  cells = cells_after x.change d.cells;
  entries = d.entries ++ entry n d.session x.call x.reply ∷ [];
  placed = d.placed ++ note_with orders d n ∷ [];
  variable_order = (orders_after (orders_of d) x.call x.reply).variables;
  element_order = (orders_after (orders_of d) x.call x.reply).elements;
}

-- and as it has the turn
abbrev pub told_of : Draws → ℕ → Telling → Draws
told_of d n x = told_with (orders_of d) d n x

abbrev pub is_post : Call → Bool
is_post (calls.Post i a) = true
is_post call = false

-- the call may change an order
abbrev pub is_ordering : Call → Bool
is_ordering (calls.Swap level) = true
is_ordering (calls.SwapElements level) = true
is_ordering (calls.Sift told) = true
is_ordering (calls.SiftElements told) = true
is_ordering call = false

-- The entry is a step from every table that agrees with the seat, and agrees with what the seat knows then. A sift finds what the seat knows. Who has not the turn posts nothing, and orders nothing.
pub record MayTell (d : Draws) (x : Telling) : Type 0 where
  pub plain : is_numbered x.reply ≡ false
  pub step : (t : Table) → Agrees d t → IsAllowed t d.session x.call x.reply × Agrees (told_of d 0 x) (after t d.session x.call x.reply)
  pub finds : MayFind d x.call
  pub board : d.holds ≡ false → is_post x.call ≡ false
  pub orders : d.holds ≡ false → is_ordering x.call ≡ false

abbrev pub nothing_told : Telling
nothing_told = record { call = calls.Sweep; reply = replies.Done; change = Nothing }

abbrev pub no_held : Held
no_held = record { edge = record { index = 0; complement = false }; function = Bdd [] }

abbrev pub nothing_left : Leaving
nothing_left = record { stored = []; due = None }

-- a seat that has nothing of the phase word and of the count words
abbrev pub viewed : Draws → View
viewed d = record { draws = d; shares = no_shares; counts = no_counts }

abbrev pub with_draws : View → Draws → View
with_draws v d = record v { draws = d }

-- a spent seat
abbrev pub blank : Draws
blank = record {
  live = false;
  session = 0;
  vars = 0;
  elements = 0;
  slots = 0;
  rows = [];
  adds = 0;
  holds = false;
  cells = [];
  others = [];
  variable_order = [];
  element_order = [];
  functions = [];
  stored = [];
  turns = [];
  due = None;
  entries = [];
  noted = [];
  placed = [];
  closing = false;
  sessions = 0;
  given = 0;
  gone = [];
}

abbrev pub closing_of : Opening → Draws
closing_of key = record blank { closing = true; vars = key.vars; elements = key.elements; slots = key.slots; sessions = key.sessions }

-- the next session's seat
abbrev pub session_of : Draws → Draws
session_of d = record blank { live = true; session = d.given; vars = d.vars; elements = d.elements; slots = d.slots; sessions = d.sessions }

abbrev pub one_more : Draws → Draws
one_more d = record d { given = suc d.given }

abbrev pub holding : Draws → List (Option Held) → List Held → Orders → List Function → Draws
holding d cells others orders functions = record d {
  holds = true;
  cells = cells;
  others = others;
  variable_order = orders.variables;
  element_order = orders.elements;
  functions = functions;
}

-- it notes what it stored, and what was due at the last Full, and still knows what the nodes denoted as it took the turn
abbrev pub letting_go : Draws → Leaving → Draws
letting_go d x = record d {
  holds = false;
  cells = [];
  others = [];
  variable_order = [];
  element_order = [];
  stored = x.stored;
  turns = d.turns ++ x.stored ∷ [];
  due = x.due;
}

-- it notes what it knows, as it does at each call
abbrev pub noting : Draws → ℕ → Draws
noting d n = record d { noted = d.noted ++ note_of d n ∷ [] }

-- each of these functions is one that a node had as the turn was taken, or is told as stored
abbrev pub AreTold : Draws → List Function → List Function → Type 0
AreTold d stored functions = (f : Function) → Contains functions f → Contains d.functions f ⊎ Contains stored f

abbrev pub gone_of : Draws → Gone
gone_of d = record { session = d.session; vars = d.vars; elements = d.elements; rows = d.rows; entries = d.entries; noted = d.noted; placed = d.placed }

abbrev pub with_gone : Draws → Draws → Draws
with_gone d e = record d { rows = d.rows ++ e.rows; gone = d.gone ++ gone_of e ∷ [] }

-- the closing seat has nothing of the count words
abbrev pub joined_with : View → Draws → View
joined_with v e = record v { draws = with_gone v.draws e; counts = no_counts }
