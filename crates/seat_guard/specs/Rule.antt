-- The rule over the table and all seats, and what each step tells.
use Rattle.std.specs.Prelude.{◌≡◌, ◌≢◌, ℕ, ◌+◌, ◌<◌, ◌≤◌, List, [], ◌∷◌, map, length, true, false, All}
use Rattle.std.specs.Prelude as std
use mathlib.Core.Option.{Option, some}
use lib.ListN.{get_elem?}
use Rattle.edge_bits.specs.declared.limits.TheConstants.{CELLS}
use Rattle.atomic_table.specs.Table.{State, Me, Step}
use Rattle.function_laws.specs.declared.history.Entry.{Entry}
use Rattle.function_laws.specs.declared.history.Function.{Function}
use Rattle.function_laws.specs.Tables.{Table, Sizes, opening}
use Rattle.function_laws.specs.Histories.{IsLegal, table_after}
use Rattle.function_laws.specs.Widening.{AgreesAt}
use Rattle.function_laws.specs.SessionEntries.{Each, entries_of}
use Rattle.function_laws.specs.Sizes.{Orders}
use Rattle.function_laws.specs.EntryOrders.{EachWith, opening_orders, orders_from}
use Rattle.seat_guard.specs.declared.view.Held.{Held}
use Rattle.seat_guard.specs.declared.view.Hold.TheVariants.{Holding}
use Rattle.seat_guard.specs.declared.view.Telling.{Telling}
use Rattle.seat_guard.specs.declared.view.Leaving.{Leaving}
use Rattle.seat_guard.specs.declared.view.Gone.{Gone}
use Rattle.seat_guard.specs.declared.view.Draws.{Draws}
use Rattle.seat_guard.specs.declared.view.View.{View}
use Rattle.seat_guard.specs.Finds.{Finds}
use Rattle.seat_guard.specs.Generations.{Generations, RowGenerations}
use Rattle.seat_guard.specs.Notes.{AreNotedIn}
use Rattle.seat_guard.specs.Sifted.{ArePlaced, IsHadAt, Sifts}
use Rattle.seat_guard.specs.Tallies.{Counted, Tally, counts_after, tally_of, times}
use Rattle.seat_guard.specs.Views.{sizes_for, stands_for, told_with, holding, letting_go, noting, orders_of, with_draws}
use Rattle.seat_guard.specs.Layout.{Words, word_count, words_of}
use Rattle.seat_guard.specs.Phase.{Footing, footing_of, HasNoShare, Phase}
use Rattle.seat_guard.specs.Journal.{Journal}
use Rattle.seat_guard.specs.Turn.{AreSized, IsKeptCell, KeepsRows, Serves, Turn}

-- the table has the rows with which a session came back
abbrev pub RowsStand : Table → Gone → Type 0
RowsStand t g = AgreesAt t.sizes (stands_for g.rows) (t.live g.session)

-- each session that was given a seat has come back
abbrev pub AreBack : ℕ → List Gone → Type 0
AreBack given gone = (p : ℕ) → p < given → (k : ℕ) × (g : Gone) × (get_elem? gone k ≡ some g) × (g.session ≡ p)

abbrev pub AllBack : Draws → Type 0
AllBack d = AreBack d.given d.gone

-- A legal history of n calls, in which each session that came back has the entries that it had, which leaves each its rows, and which has none of sessions that there never were. What a session noted at a place, and what there was at the places of its calls, is what the entries below that place leave. What a sift's entry tells it found, and, once all sessions came back, each function that it carries was at some place that of a row or a cell, or had just gone, or was about to come.
pub record Whole (n : ℕ) (start : Sizes) (given : ℕ) (gone : List Gone) : Type 0 where
  pub log : List Entry
  pub legal : IsLegal start log
  pub count : length log ≡ n
  -- so far no call adds a variable or an element, so each session knew of all
  pub fixed : (table_after (opening start) log).sizes ≡ start
  pub known : (k : ℕ) (g : Gone) → get_elem? gone k ≡ some g → sizes_for g.vars g.elements ≡ start
  pub found : EachWith Finds (opening start) (opening_orders start) log
  pub placed : AreBack given gone → ArePlaced (IsHadAt start log) log
  pub each : (k : ℕ) (g : Gone) → get_elem? gone k ≡ some g → entries_of g.session log ≡ g.entries
  pub rows : (k : ℕ) (g : Gone) → get_elem? gone k ≡ some g → RowsStand (table_after (opening start) log) g
  pub beyond : (p : ℕ) → given ≤ p → entries_of p log ≡ []
  pub noted : (k : ℕ) (g : Gone) → get_elem? gone k ≡ some g → AreNotedIn start log g.session g.noted g.placed

abbrev pub draws_in : List View → List Draws
draws_in vs = map (λ (v : View). v.draws) vs

abbrev pub footings_in : List View → List Footing
footings_in vs = map footing_of vs

abbrev pub tallies_in : List View → List Tally
tallies_in vs = map tally_of vs

-- What ties the parts of one view: only a live seat has a share or a hold, a slot raised, or one owed; only an order holder noted a count at 0, and pins.
pub record Tied (v : View) : Type 0 where
  pub unshared : v.draws.live ≡ false → HasNoShare v.shares
  pub unraised : v.draws.live ≡ false → (v.counts.raised ≡ []) × (v.counts.owed ≡ [])
  pub zeros : (k : ℕ) → 0 < times k v.counts.zeros → v.shares.order ≡ Holding
  pub pins : (k : ℕ) → 0 < times k v.counts.pins → v.shares.order ≡ Holding

module _ {S : Type 0} (keeps : S → Held → Type 0) (board : S → List (std.Option Held)) (counts : S → ℕ × ℕ × ℕ) (orders : S → Orders) where
  -- the parts, over the words by what they are
  pub record Parts (slots : ℕ) (ws : Words) (home : Option (Option (std.Option S))) (vs : List View) : Type 0 where
    pub start : Sizes
    -- how many sessions the table was made for
    pub sessions : ℕ
    -- what several parts speak of: the history, the table that it leaves, and the cells
    pub log : List Entry
    pub table : Table
    pub cells : List (std.Option Held)
    pub journal : Journal ws.journal ws.turn (draws_in vs) start log table
    pub turn : Turn keeps board counts orders slots ws.turn home (draws_in vs) (tallies_in vs) cells table (orders_from (opening_orders start) log)
    pub counted : Counted ws.count cells (tallies_in vs)
    pub sifts : Sifts start log vs
    pub generations : Generations ws.count vs
    pub row_generations : RowGenerations ws.count vs
    pub sized : AreSized slots sessions (draws_in vs)
    pub sessions_are : ws.sessions ≡ sessions
    pub phase : Phase ws.phase (footings_in vs)
    pub tied : (id : ℕ) (v : View) → get_elem? vs id ≡ some v → Tied v

  pub record Rule (s : State (std.Option S) View) : Type 0 where
    pub slots : ℕ
    pub wide : length s.words ≡ word_count slots
    pub long : length s.homes ≡ 1
    pub parts : Parts slots (words_of slots s.words) (get_elem? s.homes 0) s.views

  -- the content after all sessions came back: only the rows of the closing seat and the cells are left
  pub record Ends (x : S) (d : Draws) : Type 0 where
    pub rows_kept : KeepsRows keeps board counts orders x d.rows
    pub cells_kept : Each (IsKeptCell keeps board counts orders x) (board x)
    pub counts_are : counts x ≡ (d.vars, d.elements, d.slots)
    -- it has the orders that a whole legal history of all sessions leaves
    pub calls : ℕ
    pub whole : Whole calls (sizes_for d.vars d.elements) d.given d.gone
    pub orders_are : orders x ≡ orders_from (opening_orders (sizes_for d.vars d.elements)) whole.log

  -- what each step tells

  abbrev pub ended : Step (std.Option S) → Me (std.Option S) View → ℕ → Me (std.Option S) View → Type 0
  ended st m r m' =
      (r ≡ 0 → (x : S) × (m'.0 ≡ m.0) × (m'.1 ≡ (0, std.Some x) ∷ []) × Ends x m.0.draws)
      × (r ≢ 0 → m' ≡ m)

  abbrev pub took : (S → List Function) → Step (std.Option S) → Me (std.Option S) View → ℕ → Me (std.Option S) View → Type 0
  took functions st m r m' =
      (r ≡ 0 → (x : S) × (others : List Held) × (m'.0 ≡ with_draws m.0 (holding m.0.draws (board x) others (orders x) (functions x))) × (m'.1 ≡ (0, std.Some x) ∷ []) × (length (board x) ≡ CELLS) × Serves keeps board counts orders x (holding m.0.draws (board x) others (orders x) (functions x)) m.0.counts)
      × (r ≢ 0 → m' ≡ m)

module _ {S : Type 0} where
  abbrev pub gave : Leaving → Step S → Me S View → ℕ → Me S View → Type 0
  gave x st m r m' = (m'.0 ≡ with_draws m.0 (letting_go m.0.draws x)) × (m'.1 ≡ [])

  -- the seat is told the orders at this place; who has the turn knew them
  abbrev pub drew : Telling → Step S → Me S View → ℕ → Me S View → Type 0
  drew x st m r m' =
      (now : Orders) × (m.0.draws.holds ≡ true → now ≡ orders_of m.0.draws)
      × (m'.0 ≡ record m.0 { draws = told_with now m.0.draws r x; counts = counts_after x.change m.0.draws.cells m.0.draws.rows m.0.counts }) × (m'.1 ≡ m.1) × All (λ (e : Entry). e.place < r) m.0.draws.entries

  abbrev pub looked : Step S → Me S View → ℕ → Me S View → Type 0
  looked st m r m' = (m'.0 ≡ with_draws m.0 (noting m.0.draws r)) × (m'.1 ≡ m.1) × All (λ (e : Entry). e.place < r) m.0.draws.entries

abbrev pub closed : {S : Type 0} → Step S → Me S View → ℕ → Me S View → Type 0
closed st m r m' = (m' ≡ m) × (m.0.draws.closing ≡ true → Whole r (sizes_for m.0.draws.vars m.0.draws.elements) m.0.draws.given m.0.draws.gone)
