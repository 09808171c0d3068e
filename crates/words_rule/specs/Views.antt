-- What a seat knows, when a table of functions agrees with it, and what a call may tell.
use Rattle.std.specs.Prelude.{◌≡◌, ℕ, suc, ◌≤◌, Bool, if◌then◌else◌, true, false, List, [], ◌∷◌, ◌++◌, length, map, slice_get, slice_set, Option, Some, None, option_map}
use Rattle.function_laws.specs.declared.history.Name.{Name}
use Rattle.function_laws.specs.declared.history.Function.{Function}
use Rattle.function_laws.specs.declared.history.Function.TheVariants as functions
use Rattle.function_laws.specs.declared.history.Call.{Call}
use Rattle.function_laws.specs.declared.history.Call.TheVariants as calls
use Rattle.function_laws.specs.declared.history.Reply.TheVariants as replies
use Rattle.function_laws.specs.Tables.{Table, Sizes, same_name}
use Rattle.function_laws.specs.Steps.{IsAllowed, after}
use Rattle.function_laws.specs.SessionEntries.{entry}
use Rattle.function_laws.specs.Sizes.{Orders}
use Rattle.function_laws.specs.EntryOrders.{orders_after}
use Rattle.function_laws.specs.Handovers.{is_numbered}
use Rattle.edge_bits.specs.declared.edges.Kind.{Kind}
use Rattle.edge_bits.specs.declared.edges.Kind.TheVariants as kinds
use Rattle.words_rule.specs.declared.cell.Cell.{Cell}
use Rattle.words_rule.specs.declared.view.Held.{Held}
use Rattle.words_rule.specs.declared.view.Row.{Row}
use Rattle.words_rule.specs.declared.view.Change.{Change}
use Rattle.words_rule.specs.declared.view.Change.TheVariants.{Nothing, Adds, Takes, Posts}
use Rattle.words_rule.specs.declared.view.Telling.{Telling}
use Rattle.words_rule.specs.declared.view.Noted.{Noted}
use Rattle.words_rule.specs.declared.view.Gone.{Gone}
use Rattle.words_rule.specs.declared.view.Known.{Known}
use Rattle.words_rule.specs.declared.view.Draws.{Draws}
use Rattle.words_rule.specs.declared.view.Work.{Work}
use Rattle.words_rule.specs.declared.view.Stored.{Stored}
use Rattle.words_rule.specs.declared.view.Opening.{Opening}

-- n variables and m elements
abbrev pub sizes_for : ℕ → ℕ → Sizes
sizes_for n m = record { variables = n; elements = m; most_variables = n; most_elements = m; cells = 256 }

-- what a name stands for
abbrev pub stands_for : List Row → Name → Option Function
stands_for [] name = None
stands_for (row ∷ rows) name = if same_name name row.name then Some row.held.function else stands_for rows name

-- the rows but that of a name
abbrev pub without : Name → List Row → List Row
without name [] = []
without name (row ∷ rows) = if same_name row.name name then without name rows else (row ∷ without name rows)

abbrev pub function_in : Option (Option Held) → Option Function
function_in (Some (Some held)) = Some held.function
function_in _ = None

-- what stands in a cell of the board
abbrev pub cell_in : List (Option Held) → ℕ → Option Function
cell_in cells i = function_in (slice_get cells i)

-- the kind of a function
abbrev pub kind_of : Function → Kind
kind_of (functions.Bdd f) = kinds.Bdd
kind_of (functions.Add f) = kinds.Add
kind_of (functions.Zdd p) = kinds.Zdd

-- the cells as the board has them: each edge with the kind of its function
abbrev pub shown_cell : Held → Cell
shown_cell held = record { kind = kind_of held.function; edge = held.edge }

abbrev pub shown : List (Option Held) → List (Option Cell)
shown cells = map (option_map shown_cell) cells

-- the table agrees with what a seat knows: its rows, which names it has not given, and, with the turn, the board
pub record Agrees (d : Draws) (t : Table) : Type 0 where
  pub sizes_are : t.sizes ≡ sizes_for d.vars d.elements
  pub live : t.live d.session ≡ stands_for d.rows
  pub fresh : (name : Name) → d.adds ≤ name.generation → t.given d.session name ≡ false
  pub cells : d.holds ≡ true → (t.cells ≡ cell_in d.cells) × (length d.cells ≡ 256)

abbrev pub rows_after : Change → List Row → List Row
rows_after (Adds row) rows = row ∷ rows
rows_after (Takes name) rows = without name rows
rows_after _ rows = rows

abbrev pub adds_after : Change → ℕ → ℕ
adds_after (Adds row) n = suc n
adds_after _ n = n

abbrev pub cells_after : Change → List (Option Held) → List (Option Held)
cells_after (Posts i held) cells = slice_set cells i (Some held)
cells_after _ cells = cells

-- both orders, as who holds the order knows them: those of the words, and those that the entries leave
abbrev pub orders_of : Known → Orders
orders_of d = record { variables = d.variable_order; elements = d.element_order }

abbrev pub told_orders : Known → Orders
told_orders d = record { variables = d.told_variables; elements = d.told_elements }

-- what it knows of them after a call
abbrev pub known_after : Known → Telling → Known
known_after k x = record k {
  told_variables = (orders_after (told_orders k) x.call x.reply).variables;
  told_elements = (orders_after (told_orders k) x.call x.reply).elements;
}

-- what a seat knows after a call at the place n
abbrev pub told_of : Draws → ℕ → Telling → Draws
told_of d n x = record d {
  rows = rows_after x.change d.rows;
  adds = adds_after x.change d.adds;
  cells = cells_after x.change d.cells;
  entries = d.entries ++ entry n d.session x.call x.reply ∷ [];
}

abbrev pub is_post : Call → Bool
is_post (calls.Post i a) = true
is_post call = false

-- The entry is a step from every table that agrees with the seat, and agrees with what the seat knows then. Who has not the board posts nothing.
pub record MayTell (d : Draws) (x : Telling) : Type 0 where
  pub plain : is_numbered x.reply ≡ false
  pub step : (t : Table) → Agrees d t → IsAllowed t d.session x.call x.reply × Agrees (told_of d 0 x) (after t d.session x.call x.reply)
  pub board : d.holds ≡ false → is_post x.call ≡ false

abbrev pub nothing_told : Telling
nothing_told = record { call = calls.Sweep; reply = replies.Done; change = Nothing }

-- a spent seat
abbrev pub blank : Draws
blank = record {
  live = false;
  session = 0;
  vars = 0;
  elements = 0;
  slots = 0;
  rows = [];
  adds = 0;
  holds = false;
  cells = [];
  entries = [];
  noted = [];
  closing = false;
  sessions = 0;
  given = 0;
  gone = [];
}

abbrev pub closing_of : Opening → Draws
closing_of key = record blank { closing = true; vars = key.vars; elements = key.elements; slots = key.slots; sessions = key.sessions }

-- the next session's seat
abbrev pub session_of : Draws → Draws
session_of d = record blank { live = true; session = d.given; vars = d.vars; elements = d.elements; slots = d.slots; sessions = d.sessions }

abbrev pub one_more : Draws → Draws
one_more d = record d { given = suc d.given }

abbrev pub holding : Draws → List (Option Held) → Draws
holding d cells = record d { holds = true; cells = cells }

abbrev pub letting_go : Draws → Draws
letting_go d = record d { holds = false; cells = [] }

-- it notes the orders at a place
abbrev pub noting : Draws → Noted → Draws
noting d note = record d { noted = d.noted ++ note ∷ [] }

abbrev pub gone_of : Draws → Gone
gone_of d = record { session = d.session; rows = d.rows; entries = d.entries; noted = d.noted }

abbrev pub with_gone : Draws → Draws → Draws
with_gone d e = record d { rows = d.rows ++ e.rows; gone = d.gone ++ gone_of e ∷ [] }

-- nothing stored, nothing refused
abbrev pub no_work : Work
no_work = record { made = []; fulls = 0; due = None; counts = [] }

-- no word stored
abbrev pub nothing_stored : Stored
nothing_stored = record { nodes = []; orders = []; counts = [] }

-- the slot 0, and no values
abbrev pub no_held : Held
no_held = record { edge = record { index = 0; complement = false }; function = functions.Bdd [] }
