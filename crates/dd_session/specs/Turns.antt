-- What the functions over a seat and its rows say.
use Rattle.std.specs.Prelude.{◌≡◌, ◌⊎◌, ◌↔◌, Bool, ◌==◌, ℕ, ◌+◌, ◌≤◌, ◌<◌, ◌^◌, List, [], ◌∷◌, ◌++◌, All, length, option_map, Option, Some, None, true, false, ℤ, Result, Ok, Err, IfOk, IsErrOf, max}
use mathlib.Core.Option.{some}
use lib.ListN.{get_elem?}
use Rattle.edge_bits.specs.declared.limits.TheConstants.{CELLS, MOST_ELEMENTS, MOST_ROWS, MOST_VARIABLES}
use Rattle.atomic_table.specs.Seated.{TableId}
use Rattle.edge_bits.specs.declared.edges.Edge.{Edge}
use Rattle.edge_bits.specs.declared.edges.Kind.{Kind}
use Rattle.function_laws.specs.declared.history.Name.{Name}
use Rattle.function_laws.specs.declared.history.Function.{Function}
use Rattle.function_laws.specs.declared.history.Call.{Call}
use Rattle.function_laws.specs.declared.history.Reply.{Reply}
use Rattle.function_laws.specs.declared.history.Reply.TheVariants as replies
use Rattle.function_laws.specs.declared.history.Entry.{Entry}
use Rattle.function_laws.specs.Kinds.{Denoted, ValueOf}
use Rattle.function_laws.specs.Lists.{list_of}
use Rattle.function_laws.specs.Numbers.{exactly}
use Rattle.function_laws.specs.Values.{IsOf}
use Rattle.function_laws.specs.Outcomes.{Outcome, makes, fetches, in_range, overflows, is_apart}
use Rattle.function_laws.specs.declared.orders.Order.{Order}
use Rattle.function_laws.specs.declared.orders.Order.TheVariants.{Variables, Elements}
use Rattle.function_laws.specs.SessionEntries.{Each}
use Rattle.function_laws.specs.Sizes.{Orders}
use Rattle.function_laws.specs.Steps.{IsNew, Replies, TellsFull, needs_no_node, outcome}
use Rattle.function_laws.specs.Tables.{Table}
use Rattle.handle_count.specs.declared.rows.Held.{Held as Live}
use Rattle.handle_count.specs.RowMaps.{RowMap, find_row}
use Rattle.node_store.specs.declared.grow.Stop.{Stop}
use Rattle.node_store.specs.declared.grow.Stop.TheVariants as stop
use Rattle.node_store.specs.Listed.{listed, listed_at}
use Rattle.node_store.specs.Views.{View, Denotes, Grown, Is}
use Rattle.node_slots.specs.Stores.{IsStore}
use Rattle.operator_calls.specs.declared.unmade.Unmade.{Unmade}
use Rattle.operator_calls.specs.declared.unmade.Unmade.TheVariants.{Overflow, Apart}
use Rattle.seat_guard.specs.declared.seat.Guard.{Guard}
use Rattle.seat_guard.specs.declared.seat.Pass.{Pass}
use Rattle.seat_guard.specs.declared.view.Counts.{Counts}
use Rattle.seat_guard.specs.declared.view.Draws.{Draws}
use Rattle.seat_guard.specs.declared.view.Held.{Held}
use Rattle.seat_guard.specs.declared.view.Leaving.{Leaving}
use Rattle.seat_guard.specs.declared.view.Row.{Row}
use Rattle.seat_guard.specs.declared.view.Hold.TheVariants.{Holding}
use Rattle.seat_guard.specs.declared.view.Share.TheVariants as share
use Rattle.seat_guard.specs.declared.view.Shares.{Shares}
use Rattle.seat_guard.specs.declared.view.Telling.{Telling}
use Rattle.seat_guard.specs.Passes.{IsPassOf, counts_of, in_hand, known, shares}
use Rattle.seat_guard.specs.Phase.{HasNoShare}
use Rattle.seat_guard.specs.Turn.{one_if, row_count}
use Rattle.seat_guard.specs.declared.view.Change.{Change}
use Rattle.seat_guard.specs.declared.view.Change.TheVariants.{Adds}
use Rattle.seat_guard.specs.Views.{Agrees, MayTell, holding, known_at, letting_go, stands_for, told_of, told_with}
use Rattle.dead_sweep.specs.declared.sweeping.Swept.{Swept}
use Rattle.dead_sweep.specs.Swept.{IsSwept}
use Rattle.node_slots.specs.Held.{Alone}
use Rattle.node_slots.specs.Wholes.{content_view}
use Rattle.shared_store.specs.declared.shared.Cell.{Cell}
use Rattle.shared_store.specs.declared.shared.Shared.{Shared}
use Rattle.shared_store.specs.Sharing.{noted_in, IsHeldIn, Serving, board, due, functions, kind_of, orders, view_of}
use Rattle.shared_store.specs.Storing.{IsLeaving, IsListedWork, StoresOnly}
use Rattle.dd_session.specs.declared.answers.Fetched.{Fetched}
use Rattle.dd_session.specs.declared.answers.Fetched.TheVariants.{Posted, Empty}
use Rattle.dd_session.specs.declared.answers.Refusal.{Refusal}
use Rattle.dd_session.specs.declared.answers.Refusal.TheVariants as refusals
use Rattle.dd_session.specs.declared.book.Book.{Book}
use Rattle.dd_session.specs.declared.request.Adding.{Adding}
use Rattle.dd_session.specs.declared.request.Adding.TheVariants.{Made, Chosen, Taken}
use Rattle.dd_session.specs.Sessions.{Managed, Seen, fulls_in, held_as, names_in}

-- what callers see

abbrev pub managed_by : TableId → Draws → Managed
managed_by table d = record { table = table; vars = d.vars; elements = d.elements; limit = d.slots; sessions = d.sessions }

abbrev pub seen_by : TableId → Draws → ℕ → Seen
seen_by table d spare = record {
  manager = managed_by table d;
  number = d.session;
  rows = d.rows;
  more_variables = 0;
  more_elements = 0;
  adds = d.adds;
  spare = spare;
  entries = d.entries;
  found = d.functions;
  stored = d.stored;
  turns = d.turns;
  due = d.due;
  noted = d.noted;
  placed = d.placed;
}

-- a seat that is seen as this session
pub record IsSeatOf (s : Seen) (d : Draws) : Type 0 where
  pub table : TableId
  pub spare : ℕ
  pub is : s ≡ seen_by table d spare

abbrev pub seen_of : Pass Shared → Book → Seen
seen_of p book = seen_by p.seat.table_id (known p) book.rows.spare

-- rows

-- a row as it stands in memory
abbrev pub live_as : Name → Held → Live
live_as name held = record { name = name; kind = kind_of held.function; edge = held.edge }

abbrev pub live_count : ℕ → List Live → ℕ
live_count k [] = 0
live_count k (live ∷ lives) = one_if (live.edge.index == k) + live_count k lives

-- no two rows have one name
abbrev pub AreApart : List Row → Type 0
AreApart [] = Unit {0}
AreApart (row ∷ rows) = (held_as rows row.name ≡ None) × AreApart rows

-- the rows in memory are those that the seat knows
pub record Tied (d : Draws) (rows : RowMap) : Type 0 where
  pub adds_are : d.adds ≡ rows.adds
  pub few : d.adds ≤ length d.entries
  pub found : (name : Name) → find_row rows.live name ≡ option_map (live_as name) (held_as d.rows name)
  pub many : length rows.live ≡ length d.rows
  pub counted : (k : ℕ) → live_count k rows.live ≡ row_count k d.rows
  pub apart : AreApart d.rows

-- Each row's edge is that of a slot, and of rows of one kind those that have one function, and those alone, have one edge.
pub record AreSound (d : Draws) : Type 0 where
  pub within : (i : ℕ) (row : Row) → get_elem? d.rows i ≡ some row → row.held.edge.index < d.slots
  pub canonical : (i j : ℕ) (a b : Row) → get_elem? d.rows i ≡ some a → get_elem? d.rows j ≡ some b → kind_of a.held.function ≡ kind_of b.held.function → (a.held.edge ≡ b.held.edge) ↔ (known_at d a.held.function ≡ known_at d b.held.function)

-- and the calls are as many
pub record Keeps (d : Draws) (book : Book) : Type 0 where
  pub rows : Tied d book.rows
  pub sound : AreSound d
  pub calls : book.calls ≡ length d.entries
  pub fulls : book.fulls ≡ fulls_in d.entries

-- it may make one more call
abbrev pub HasPlace : Draws → Type 0
HasPlace d = (length d.rows < MOST_ROWS) × (length d.entries < 2 ^ 48)

-- how many levels an order has
abbrev pub levels_in : Draws → Order → ℕ
levels_in d Variables = d.vars
levels_in d Elements = d.elements

-- what it knows where both orders are these
abbrev pub ordered_by : Draws → Orders → Draws
ordered_by d o = record d { variable_order = o.variables; element_order = o.elements }

-- the turn

-- nothing is raised, owed or pinned
pub record IsSettled (c : Counts) : Type 0 where
  pub raised : c.raised ≡ []
  pub owed : c.owed ≡ []
  pub pins : c.pins ≡ []

-- and no count was found at 0
abbrev pub IsClear : Counts → Type 0
IsClear c = IsSettled c × (c.zeros ≡ [])

-- it is so after a call, and the counts that were found at 0 are those of before
abbrev pub Settles : Counts → Counts → Type 0
Settles c c' = IsSettled c' × (c'.zeros ≡ c.zeros)

abbrev pub IsReady : Pass Shared → Type 0
IsReady p = ((known p).live ≡ true) × ((known p).holds ≡ false) × (in_hand p ≡ []) × HasNoShare (shares p) × IsClear (counts_of p)

-- a live pass of this table, with nothing in hand and nothing of the counts
abbrev pub IsCalm : Guard Shared → Pass Shared → Type 0
IsCalm g p = IsPassOf g p × ((known p).live ≡ true) × ((known p).holds ≡ false) × (in_hand p ≡ []) × IsClear (counts_of p)

-- the same, which may have found counts under its order hold
abbrev pub IsStill : Guard Shared → Pass Shared → Type 0
IsStill g p = IsPassOf g p × ((known p).live ≡ true) × ((known p).holds ≡ false) × (in_hand p ≡ []) × IsSettled (counts_of p)

-- what stood in a cell is owed, and no more
abbrev pub OwesCell : Option Cell → List Held → Type 0
OwesCell None owed = owed ≡ []
OwesCell (Some cell) owed = (held : Held) × (owed ≡ held ∷ []) × (held.edge ≡ cell.edge)

-- a session with the turn may count a slot up under an operation share, or the full hold
abbrev pub MayCount : Shares → Type 0
MayCount x = (x.op ≡ share.Held) ⊎ (x.full ≡ Holding)

-- the pass has the turn, and what all share is in hand
abbrev pub IsHolding : Guard Shared → Pass Shared → Type 0
IsHolding g p = IsPassOf g p × ((known p).live ≡ true) × ((known p).holds ≡ true) × (in_hand p ≡ (0, None) ∷ []) × (length (known p).cells ≡ CELLS) × IsSettled (counts_of p)

-- what the taker of the turn knows
pub record Took (d e : Draws) (x : Shared) : Type 0 where
  pub others : List Held
  pub is : e ≡ holding d (board x) others (orders x) (functions x)
  pub counts : Counts
  pub serves : Serving x e counts
  pub many : length (board x) ≡ CELLS

-- the turn was taken, with room for one more row
pub record Started (g : Guard Shared) (p p' : Pass Shared) (book book' : Book) (x : Shared) : Type 0 where
  pub holds : IsHolding g p'
  pub took : Took (known p) (known p') x
  pub keeps : Keeps (known p') book'
  pub spare : book'.rows.spare ≡ max book.rows.spare 1
  pub serves : Serving x (known p') (counts_of p')
  pub stands : (shares p' ≡ shares p) × (counts_of p' ≡ counts_of p)

-- how many variables, elements and slots a view has
abbrev pub sizes_in : View → ℕ × ℕ × ℕ
sizes_in w = (w.vars, w.elements, w.slots)

-- a view of a store that has the seat's rows
pub record Stands (w : View) (d : Draws) : Type 0 where
  pub rows_kept : Each (λ (row : Row). IsHeldIn w row.held) d.rows
  pub counts_are : sizes_in w ≡ (d.vars, d.elements, d.slots)

-- it has no more variables and elements than a store may have
abbrev pub IsSmall : View → Type 0
IsSmall w = (w.vars ≤ MOST_VARIABLES) × (w.elements ≤ MOST_ELEMENTS)

-- the edge of a row, in each view that has the rows
abbrev pub IsEdgeOf : Kind → Draws → Name → Edge → Type 0
IsEdgeOf k d name e = (w : View) → Stands w d → Is k w e × (option_map (noted_in w) (stands_for d.rows name) ≡ Some (listed_at k w e))

-- the turn was given back with this content
pub record Left (d d' : Draws) (y : Shared) : Type 0 where
  pub leaving : Leaving
  pub is_leaving : IsLeaving d y leaving
  pub left : d' ≡ letting_go d leaving

-- how many names a change gives
abbrev pub names_by : Change → ℕ
names_by (Adds row) = 1
names_by _ = 0

-- a place was drawn with this telling, and the turn was given back
pub record Drew (d d' : Draws) (y : Shared) (x : Telling) (place : ℕ) : Type 0 where
  pub may : MayTell d x
  pub counted : names_by x.change ≡ names_in x.reply
  pub later : All (λ (e : Entry). e.place < place) d.entries
  pub leaving : Leaving
  pub is_leaving : IsLeaving d y leaving
  pub left : d' ≡ letting_go (told_of d place x) leaving

-- a place was drawn with this telling, without the turn
pub record DrewAlone (d d' : Draws) (x : Telling) (place : ℕ) : Type 0 where
  pub may : MayTell d x
  pub counted : names_by x.change ≡ names_in x.reply
  pub later : All (λ (e : Entry). e.place < place) d.entries
  pub now : Orders
  pub left : d' ≡ told_with now d place x

-- the same, where the telling has this call and this reply
abbrev pub Told : Draws → Draws → Call → Reply → ℕ → Type 0
Told d d' call reply place = (y : Shared) × (x : Telling) × (x.call ≡ call) × (x.reply ≡ reply) × Drew d d' y x place

-- what a new row is told as, by how it came to be
abbrev pub IsAdded : Draws → Draws → Call → Adding → Name → ℕ → Type 0
IsAdded d d' call Made name place = Told d d' call (replies.Made name) place
IsAdded d d' call Chosen name place = (g : Function) × Told d d' call (replies.Chose name g) place
IsAdded d d' call (Taken posted) name place = Told d d' call (replies.Fetched name posted) place

-- what the seat notes as stored, and as due, is as if this content had been given back
abbrev pub Notes : Draws → Draws → Shared → Type 0
Notes d d' y = (l : Leaving) × (d'.stored ≡ l.stored) × (d'.due ≡ l.due) × IsLeaving d y l × (d'.turns ≡ d.turns ++ l.stored ∷ [])

-- what a refusal leaves
abbrev pub IsRefused : Draws → Draws → Call → Refusal → Type 0
IsRefused d d' call refusals.Memory = (l : Leaving) × (d' ≡ letting_go d l)
IsRefused d d' call (refusals.Full full) = Told d d' call (replies.Full full.in_use full.need) full.place × (full.limit ≡ d.slots) × TellsFull d.slots call full.in_use full.need

-- why an operation was refused
abbrev pub IsCausedBy : {X Y : Type 0} → Result X Stop → Result Y Refusal → Type 0
IsCausedBy made (Ok placed) = Unit {0}
IsCausedBy made (Err refusals.Memory) = IsErrOf made stop.Memory
IsCausedBy made (Err (refusals.Full full)) = IsErrOf made stop.Full

-- outcomes

-- what comes of the call, in each table that agrees with the seat
abbrev pub Gives : Draws → Call → Outcome → Type 0
Gives d call o = (t : Table) → Agrees d t → outcome t d.session call ≡ Some o

-- what comes of a call that makes nothing
abbrev pub outcome_unmade : Unmade → Outcome
outcome_unmade Overflow = overflows
outcome_unmade Apart = is_apart

-- something comes of it that may need a node
abbrev pub MayBeFull : Draws → Call → Type 0
MayBeFull d call = (t : Table) → Agrees d t → (o : Outcome) × (outcome t d.session call ≡ Some o) × (needs_no_node o ≡ false)

-- a function that the call may choose, for a name that was never given
pub record Chooses (d : Draws) (call : Call) (g : Function) : Type 0 where
  pub outcome : Outcome
  pub gives : Gives d call outcome
  pub may : (t : Table) → Agrees d t → (name : Name) → IsNew t d.session name → Replies t d.session outcome (replies.Chose name g)

-- what the cell's edge denotes is what the call adds
abbrev pub AddsRow : Draws → View → Call → Adding → Cell → Type 0
AddsRow d w call Made cell = Gives d call (makes (listed_at cell.kind w cell.edge))
AddsRow d w call Chosen cell = Chooses d call (listed_at cell.kind w cell.edge)
AddsRow d w call (Taken posted) cell = Gives d call (fetches (listed_at cell.kind w cell.edge) posted)

-- An operation's answers denote the function that the call makes.
pub record HasValue (k : Kind) (Answers : View → Edge → Type 0) (d : Draws) (v : View) (call : Call) : Type 0 where
  pub value : ℕ → ValueOf k
  pub gives : Gives d call (makes (listed k v value))
  pub denotes : (w : View) (e : Edge) → Answers w e → Denotes k w e value

-- The call makes this function of the variables, or is told that a value of it is out of range.
pub record HasExact (d : Draws) (v : View) (call : Call) (f : ℕ → ℤ) : Type 0 where
  pub is_of : IsOf v.vars f
  pub gives : Gives d call (in_range (exactly (list_of (2 ^ v.vars) f)))

-- what was asked of the store changed nothing that all share, and stored nothing
pub record IsAsked (x y : Shared) : Type 0 where
  pub serves : (d : Draws) (c : Counts) → Serving x d c → Serving y d c
  pub stored : StoresOnly (λ _. ⊥) x y

-- one try of an operation, from a store with the first view
pub record Ran {X : Type 0} (Answers : View → View → X → Type 0) (Work : View → Denoted → Type 0) (x y : Shared) (made : Result X Stop) : Type 0 where
  pub store : IsStore x.store
  pub grown : Grown (view_of x) (view_of y)
  pub cells : y.cells.items ≡ x.cells.items
  pub orders_are : orders y ≡ orders x
  pub answer : IfOk made (Answers (view_of x) (view_of y))
  pub stored : StoresOnly (IsListedWork (view_of x) (Work (view_of x))) x y
  pub due_is : IsErrOf made stop.Full → (f : Function) × (due y ≡ Some f) × IsListedWork (view_of x) (Work (view_of x)) f

-- what a sweep left of a store that serves the seat
abbrev pub IsSweptFrom : Draws → Counts → Shared → Type 0
IsSweptFrom d c y = (b : Shared) × Serving b d c × (swept : Swept) × IsSwept Alone (content_view b.store) (content_view y.store) swept

-- a part of the work in some store that serves the seat
abbrev pub IsWorkFor : Draws → Counts → (View → Denoted → Type 0) → Function → Type 0
IsWorkFor d c Work f = (v : Shared) × Serving v d c × IsStore v.store × IsListedWork (view_of v) (Work (view_of v)) f

-- the last try of an operation, and what all tries stored
pub record Tried (d : Draws) (c : Counts) {X : Type 0} (Answers : View → View → X → Type 0) (Work : View → Denoted → Type 0) (x y : Shared) (made : Result X Stop) : Type 0 where
  pub from : Shared
  pub serves : Serving from d c
  pub ran : Ran Answers Work from y made
  pub stored : StoresOnly (IsWorkFor d c Work) x y
  -- where no slot was free, it began with what a sweep left
  pub swept : IsErrOf made stop.Full → IsSweptFrom d c from

-- the board

abbrev pub is_posted : Fetched → Bool
is_posted Posted = true
is_posted Empty = false

abbrev pub function_of : View → Option Cell → Option Function
function_of w None = None
function_of w (Some cell) = Some (listed_at cell.kind w cell.edge)
