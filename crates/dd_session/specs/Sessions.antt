-- What callers see of a session, and what a call says.
use Rattle.std.specs.Prelude.{◌≡◌, ℕ, ◌+◌, ◌≤◌, ◌<◌, ◌^◌, List, [], ◌∷◌, ◌++◌, All, length, Option, Some, None, option_map, Result, Ok, Err, false, if◌then◌else◌}
use Rattle.edge_bits.specs.declared.limits.TheConstants.{MOST_ROWS}
use Rattle.atomic_table.specs.Seated.{TableId}
use Rattle.edge_bits.specs.declared.edges.Edge.{Edge}
use Rattle.edge_bits.specs.declared.edges.Kind.{Kind}
use Rattle.function_laws.specs.declared.history.Name.{Name}
use Rattle.function_laws.specs.declared.history.Function.{Function}
use Rattle.function_laws.specs.declared.history.Call.{Call}
use Rattle.function_laws.specs.declared.history.Reply.{Reply}
use Rattle.function_laws.specs.declared.history.Reply.TheVariants as replies
use Rattle.function_laws.specs.declared.history.Entry.{Entry}
use Rattle.function_laws.specs.SessionEntries.{entry}
use Rattle.function_laws.specs.Tables.{Sizes, Table, same_name}
use Rattle.function_laws.specs.Widening.{AgreesAt, at_sizes}
use Rattle.function_laws.specs.Steps.{IsAllowed, TellsFull, after}
use Rattle.operator_calls.specs.declared.unmade.Unmade.{Unmade}
use Rattle.operator_calls.specs.declared.unmade.Unmade.TheVariants.{Overflow, Apart}
use Rattle.seat_guard.specs.declared.view.Change.{Change}
use Rattle.seat_guard.specs.declared.view.Held.{Held}
use Rattle.seat_guard.specs.declared.view.Noted.{Noted}
use Rattle.seat_guard.specs.declared.view.Row.{Row}
use Rattle.seat_guard.specs.Views.{rows_after, sizes_for, stands_for}
pub use Rattle.shared_store.specs.Sharing.{kind_of}
use Rattle.dd_session.specs.declared.answers.Refusal.{Refusal}
use Rattle.dd_session.specs.declared.answers.Refusal.TheVariants as refusals

-- A manager, as its callers see it: its table, and the numbers that it was opened with.
pub record Managed : Type 0 where
  pub table : TableId
  pub vars : ℕ
  pub elements : ℕ
  -- how many slots its store has
  pub limit : ℕ
  pub sessions : ℕ

-- A session, as its callers see it.
pub record Seen : Type 0 where
  -- the manager that it was opened with
  pub manager : Managed
  pub number : ℕ
  -- its rows: each with its name, its edge and the function that this denotes
  pub rows : List Row
  -- how many variables and elements it knows to have been added since the manager was opened; they never fall
  pub more_variables : ℕ
  pub more_elements : ℕ
  -- how many names it has given, and how many more rows take no memory
  pub adds : ℕ
  pub spare : ℕ
  -- its calls, in its order
  pub entries : List Entry
  -- what the nodes denoted that its last call found
  pub found : List Function
  -- the functions that its last call stored, and the one that was due at the last Full before the end of that call
  pub stored : List Function
  -- what it stored in each of its turns at the store, the oldest first: a call has one, and another where a second try was due
  pub turns : List (List Function)
  pub due : Option Function
  -- what it noted at its listings, the oldest first
  pub noted : List Noted
  -- what there was at the places of its calls, the oldest first
  pub placed : List Noted

-- how many variables and elements it knows
abbrev pub variables_in : Seen → ℕ
variables_in s = s.more_variables + s.manager.vars

abbrev pub elements_in : Seen → ℕ
elements_in s = s.more_elements + s.manager.elements

abbrev pub known_sizes : Seen → Sizes
known_sizes s = sizes_for (variables_in s) (elements_in s)

-- what a name stands for, as a function of the variables and elements that the session knows
abbrev pub stands_now : Seen → Name → Option Function
stands_now s name = option_map (at_sizes (known_sizes s)) (stands_for s.rows name)

-- The table of functions has what the session sees, which it noted when there were at most as many variables and elements, and has not been given further names by it.
pub record SeenIn (s : Seen) (t : Table) : Type 0 where
  pub grown : (variables_in s ≤ t.sizes.variables) × (elements_in s ≤ t.sizes.elements)
  pub live : AgreesAt t.sizes (stands_for s.rows) (t.live s.number)
  pub fresh : (name : Name) → s.adds ≤ name.generation → t.given s.number name ≡ false

-- how many names a reply gives
abbrev pub names_in : Reply → ℕ
names_in (replies.Made name) = 1
names_in (replies.Chose name f) = 1
names_in (replies.Fetched name posted) = 1
names_in (replies.Numbered name n) = 1
names_in _ = 0

-- how many variables and elements there were at the place of a note
abbrev pub sizes_at : Noted → Sizes
sizes_at note = sizes_for note.vars note.elements

-- The call was made at the place and replied so: in whatever table the session is seen, with the board, the variables and the elements that there were at the place, this is a step, and the session is seen afterwards in the table that is left, whose variables and elements it knows. It is the one entry more of the session, above its other ones.
pub record Called (old new : Seen) (call : Call) (reply : Reply) (place : ℕ) : Type 0 where
  pub board : ℕ → Option Function
  -- what there was at the place, which it noted: the orders, the numbers of variables and elements, and its rows
  pub note : Noted
  pub place_is : note.place ≡ place
  pub rows_noted : note.rows ≡ old.rows
  pub placed_are : new.placed ≡ old.placed ++ note ∷ []
  pub step : (t : Table) → SeenIn old t → t.cells ≡ board → t.sizes ≡ sizes_at note
      → IsAllowed t old.number call reply × SeenIn new (after t old.number call reply) × ((after t old.number call reply).sizes ≡ known_sizes new)
  -- so far no call adds a variable or an element: there were as many as the session knew, and it knows of no more
  pub sizes_are : sizes_at note ≡ known_sizes old
  pub more_are : (new.more_variables ≡ old.more_variables) × (new.more_elements ≡ old.more_elements)
  pub entries_are : new.entries ≡ old.entries ++ entry place old.number call reply ∷ []
  pub later : All (λ (e : Entry). e.place < place) old.entries
  pub manager_is : new.manager ≡ old.manager
  pub number_is : new.number ≡ old.number
  -- it gave the names that the reply has, and has at most so many rows more
  pub adds_are : new.adds ≡ old.adds + names_in reply
  pub few : length new.rows ≤ length old.rows + names_in reply
  -- but for a row that it gave or took, each row stays as it is, its edge included
  pub change : Change
  pub rows_are : new.rows ≡ rows_after change old.rows
  pub noted_are : new.noted ≡ old.noted

-- want of memory leaves all as it was; what was found and stored may be another, and the room for rows more
abbrev pub IsAsBefore : Seen → Seen → Type 0
IsAsBefore old new = (new ≡ record old { spare = new.spare; found = new.found; stored = new.stored; turns = new.turns; due = new.due }) × (old.spare ≤ new.spare)

-- full is a call of the history that changes nothing, and tells how many slots were in use and how many were needed
abbrev pub Denies : Seen → Seen → Call → Refusal → Type 0
Denies old new call refusals.Memory = IsAsBefore old new
Denies old new call (refusals.Full full) = Called old new call (replies.Full full.in_use full.need) full.place × (full.limit ≡ old.manager.limit) × TellsFull old.manager.limit call full.in_use full.need

-- what an operation replies that made nothing
abbrev pub reply_unmade : Unmade → Reply
reply_unmade Overflow = replies.Overflow
reply_unmade Apart = replies.Apart

-- what one replies that may make nothing
abbrev pub told_as : Result Name Unmade → Reply
told_as (Ok name) = replies.Made name
told_as (Err why) = reply_unmade why

-- the session may make one more call
abbrev pub HasRoom : Seen → Type 0
HasRoom s = (length s.rows < MOST_ROWS) × (length s.entries < 2 ^ 48)

-- the name stands for a function of this kind
abbrev pub IsNamed : Kind → List Row → Name → Type 0
IsNamed k rows name = (f : Function) × (stands_for rows name ≡ Some f) × (kind_of f ≡ k)

abbrev pub IsLiveAs : Kind → Seen → Name → Type 0
IsLiveAs k s name = IsNamed k s.rows name

abbrev pub IsLive : Seen → Name → Type 0
IsLive s name = (k : Kind) × IsLiveAs k s name

-- what a name stands for, with its edge
abbrev pub held_as : List Row → Name → Option Held
held_as [] name = None
held_as (row ∷ rows) name = if same_name name row.name then Some row.held else held_as rows name

-- the row of a name
abbrev pub row_in : List Row → Name → Option Row
row_in [] name = None
row_in (row ∷ rows) name = if same_name name row.name then Some row else row_in rows name

-- the name's row leads to this slot, which has this generation
abbrev pub LeadsTo : List Row → Name → ℕ → ℕ → Type 0
LeadsTo rows name slot generation = (row : Row) × (row_in rows name ≡ Some row) × (slot ≡ row.held.edge.index) × (generation ≡ row.generation)

abbrev pub edge_or : Option Held → Edge
edge_or None = record { index = 0; complement = false }
edge_or (Some held) = held.edge

-- the edge of a live row
abbrev pub edge_in : List Row → Name → Edge
edge_in rows name = edge_or (held_as rows name)

-- a variable with a row, and with the row's edge
abbrev pub with_edge : List Row → ℕ × Name → ℕ × Edge
with_edge rows pair = (pair.0, edge_in rows pair.1)

-- how many of the calls were refused for a full table
abbrev pub is_full : Reply → ℕ
is_full (replies.Full in_use need) = 1
is_full _ = 0

abbrev pub fulls_in : List Entry → ℕ
fulls_in [] = 0
fulls_in (e ∷ es) = is_full e.reply + fulls_in es
