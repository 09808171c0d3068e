-- What callers see of a manager and of its sessions.
use Rattle.std.specs.Prelude.{◌≡◌, ℕ, zero, suc, ◌+◌, ◌<◌, ◌≤◌, List, [], ◌∷◌, ◌++◌, Bool, true, false, Option, Some, None, length, All}
use mathlib.Core.Option.{some}
use lib.ListN.{get_elem?}
use Rattle.edge_bits.specs.declared.limits.TheConstants.{MOST_ELEMENTS, MOST_SESSIONS, MOST_SLOTS, MOST_VARIABLES}
use Rattle.function_laws.specs.declared.history.Entry.{Entry}
use Rattle.function_laws.specs.EntryOrders.{EachWith, opening_orders, orders_from}
use Rattle.function_laws.specs.Histories.{IsLegal, table_after}
use Rattle.function_laws.specs.SessionEntries.{Each, entries_of}
use Rattle.seat_guard.specs.Finds.{Finds}
use Rattle.seat_guard.specs.Sifted.{ArePlaced, IsHadAt}
use Rattle.function_laws.specs.Tables.{Table, opening}
use Rattle.function_laws.specs.Widening.{AgreesAt}
use Rattle.node_store.specs.Contents.{Content}
use Rattle.dead_sweep.specs.declared.sweeping.Swept.{Swept}
use Rattle.dead_sweep.specs.Swept.{IsSwept}
use Rattle.seat_guard.specs.declared.seat.Guard.{Guard}
use Rattle.seat_guard.specs.declared.seat.Pass.{Pass}
use Rattle.seat_guard.specs.declared.seat.Rest.{Rest}
use Rattle.seat_guard.specs.declared.view.Draws.{Draws}
use Rattle.seat_guard.specs.declared.view.Gone.{Gone}
use Rattle.seat_guard.specs.Notes.{IsNotedIn}
use Rattle.seat_guard.specs.Passes.{known, resting}
pub use Rattle.seat_guard.specs.Views.{sizes_for, stands_for}
use Rattle.shared_store.specs.declared.shared.Shared.{Shared}
use Rattle.dd_session.specs.declared.answers.Fetched.{Fetched}
use Rattle.dd_session.specs.Counting.{ZeroStays}
use Rattle.dd_session.specs.declared.book.Book.{Book}
use Rattle.dd_session.specs.Sessions as sessions
use Rattle.dd_session.specs.Sessions.{elements_in, known_sizes, variables_in}
use Rattle.dd_session.specs.Turns as turns

abbrev pub Managed : Type 0
Managed = sessions.Managed

abbrev pub Seen : Type 0
Seen = sessions.Seen

-- a session whose seat is away, which no caller meets
abbrev pub seatless : Seen
seatless = record { manager = record { table = record { words = 0; slots = 0; views_name = 0; atom = 0; block = 0; offset = 0; slot_names = [] }; vars = 0; elements = 0; limit = 0; sessions = 0 }; number = 0; rows = []; more_variables = 0; more_elements = 0; adds = 0; spare = 0; entries = []; found = []; stored = []; turns = []; due = None; noted = []; placed = [] }

abbrev pub seen_in : Option (Pass Shared) → Book → Seen
seen_in (Some p) book = turns.seen_of p book
seen_in None book = seatless

-- between two calls the seat is there, and is at rest
abbrev pub Ready : Option (Pass Shared) → Book → Type 0
Ready (Some p) book = turns.IsReady p × turns.Keeps (known p) book
Ready None book = ⊥

abbrev pub managed_of : Guard Shared → Rest Shared → Managed
managed_of g r = turns.managed_by g.table.shared.table_id (resting r)

-- the closing seat, all of whose sessions were given and none has come back
abbrev pub IsClosing : Draws → Type 0
IsClosing d = (d.closing ≡ true) × (d.gone ≡ []) × (d.given ≡ d.sessions) × (d.rows ≡ [])

-- a session that has made no call
abbrev pub newcomer : Managed → ℕ → Seen
newcomer m number = record { manager = m; number = number; rows = []; more_variables = 0; more_elements = 0; adds = 0; spare = 0; entries = []; found = []; stored = []; turns = []; due = None; noted = []; placed = [] }

-- the first n sessions, as they are opened
abbrev pub newcomers : Managed → ℕ → List Seen
newcomers m zero = []
newcomers m (suc n) = newcomers m n ++ newcomer m n ∷ []

-- the sessions of a manager as it opens them
abbrev pub opened : Managed → List Seen
opened m = newcomers m m.sessions

-- the numbers that a manager may be opened with
abbrev pub IsConfig : ℕ → ℕ → ℕ → ℕ → Type 0
IsConfig vars elements limit sessions = (vars ≤ MOST_VARIABLES) × (elements ≤ MOST_ELEMENTS) × (5 + vars ≤ limit) × (limit ≤ MOST_SLOTS) × (1 ≤ sessions) × (sessions ≤ MOST_SESSIONS)

-- all sessions that the manager has opened, in any order
pub record AreAll (m : Managed) (sessions : List Seen) : Type 0 where
  pub own : All (λ (s : Seen). s.manager ≡ m) sessions
  pub as_many : length sessions ≡ m.sessions
  pub covered : (p : ℕ) → p < m.sessions → (k : ℕ) × (s : Seen) × (get_elem? sessions k ≡ some s) × (s.number ≡ p)

-- the table has the rows of the session
abbrev pub HasRowsOf : Seen → Table → Type 0
HasRowsOf s t = AgreesAt t.sizes (stands_for s.rows) (t.live s.number)

-- There is one legal history of n calls. The calls of each of these sessions are those that it has of it, and it has no calls of others.
pub record IsHistoryOf (m : Managed) (sessions : List Seen) (n : ℕ) : Type 0 where
  pub log : List Entry
  pub legal : IsLegal (sizes_for m.vars m.elements) log
  pub count : length log ≡ n
  -- a sift's entry carries both orders as the calls below it leave them, functions of which no two are one, and among them those of its session's rows
  pub found : EachWith Finds (opening (sizes_for m.vars m.elements)) (opening_orders (sizes_for m.vars m.elements)) log
  -- and each of them was, at a place above its session's call before it and at most its own, that of a row or a cell, or had just gone, or was about to come
  pub had : ArePlaced (IsHadAt (sizes_for m.vars m.elements) log) log
  pub each : (k : ℕ) (s : Seen) → get_elem? sessions k ≡ some s → entries_of s.number log ≡ s.entries
  -- the table that the history leaves has these rows of each session
  pub rows : (k : ℕ) (s : Seen) → get_elem? sessions k ≡ some s → HasRowsOf s (table_after (opening (sizes_for m.vars m.elements)) log)
  -- so far no call adds a variable or an element, so each session knows of all
  pub fixed : (table_after (opening (sizes_for m.vars m.elements)) log).sizes ≡ sizes_for m.vars m.elements
  pub known : (k : ℕ) (s : Seen) → get_elem? sessions k ≡ some s → known_sizes s ≡ sizes_for m.vars m.elements
  -- what a session noted at a place is what the calls below that place leave: the orders, how many variables and elements, and its rows
  pub noted : (k : ℕ) (s : Seen) → get_elem? sessions k ≡ some s → Each (IsNotedIn (sizes_for m.vars m.elements) log s.number) s.noted
  -- and so is what there was at the places of its calls
  pub placed : (k : ℕ) (s : Seen) → get_elem? sessions k ≡ some s → Each (IsNotedIn (sizes_for m.vars m.elements) log s.number) s.placed
  pub no_other : (p : ℕ) → ((k : ℕ) (s : Seen) → get_elem? sessions k ≡ some s → s.number ≡ p → ⊥) → entries_of p log ≡ []

-- What a sweep left in use, of a store whose orders are those that the entries leave, and in which nothing holds a slot any more.
pub record IsSweptOut (m : Managed) (log : List Entry) (left : ℕ) : Type 0 where
  pub before : Content
  pub after : Content
  pub swept : Swept
  pub unheld : (k : ℕ) → before.count k ≡ 0
  pub unpinned : (k : ℕ) → before.pinned k ≡ false
  pub orders_are : before.orders ≡ orders_from (opening_orders (sizes_for m.vars m.elements)) log
  pub is_swept : IsSwept ZeroStays before after swept
  pub left_is : left ≡ swept.in_use

-- The manager was closed with these sessions: so many calls are one history, and so many slots were left.
pub record IsClosed (m : Managed) (sessions : List Seen) (calls left : ℕ) : Type 0 where
  pub history : IsHistoryOf m sessions calls
  pub swept : IsSweptOut m history.log left

-- what is left of a session as it comes back
abbrev pub gone_as : Seen → Gone
gone_as s = record { session = s.number; vars = variables_in s; elements = elements_in s; rows = s.rows; entries = s.entries; noted = s.noted; placed = s.placed }

abbrev pub is_posted : Fetched → Bool
is_posted = turns.is_posted
