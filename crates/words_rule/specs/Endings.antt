-- What a session's seat has put down when it comes back, and what the closing seat is told in the end.
use Rattle.std.specs.Prelude.{◌≡◌, ◌≢◌, ℕ, ◌<◌, ◌≤◌, List, [], ◌∷◌, length, slice_index, true, false, take}
use Rattle.std.specs.Prelude as std
use mathlib.Core.Option.{none, some}
use lib.ListN.{get_elem?}
use Rattle.atomic_table.specs.Table.{Me, Step}
use Rattle.function_laws.specs.declared.history.Entry.{Entry}
use Rattle.function_laws.specs.Kinds.{Denoted}
use Rattle.function_laws.specs.Tables.{Sizes, opening}
use Rattle.function_laws.specs.Histories.{IsLegal, table_after}
use Rattle.function_laws.specs.SessionEntries.{Each, entries_of}
use Rattle.function_laws.specs.Sizes.{Orders}
use Rattle.function_laws.specs.EntryOrders.{opening_orders, orders_from}
use Rattle.node_store.specs.Contents.{IsSound, Pair, view_of}
use Rattle.words_rule.specs.declared.cell.Cell.{Cell}
use Rattle.words_rule.specs.declared.view.Held.{Held}
use Rattle.words_rule.specs.declared.view.Row.{Row}
use Rattle.words_rule.specs.declared.view.Gone.{Gone}
use Rattle.words_rule.specs.declared.view.Draws.{Draws}
use Rattle.words_rule.specs.declared.view.View.{View}
use Rattle.words_rule.specs.declared.view.Share.TheVariants.{Nothing}
use Rattle.words_rule.specs.declared.view.Hold.TheVariants.{Free}
use Rattle.words_rule.specs.Layout.{Shape, words_of, content_of}
use Rattle.words_rule.specs.Shapes.{shape_in}
use Rattle.words_rule.specs.Views.{sizes_for, stands_for, cell_in, shown}
use Rattle.words_rule.specs.Notes.{IsNotedIn}
use Rattle.words_rule.specs.Hands.{IsIdle, IsFreeList}
use Rattle.words_rule.specs.Kept.{IsHeldBy, IsKeptCell}
use Rattle.words_rule.specs.Remembered.{AreAnswers}
use Rattle.words_rule.specs.Sifted.{IsPlaced, carried_by}
use Rattle.free_list.specs.FreeSlots.{FreeSlots}

-- it has no share and no hold, no turn, no free list, no board and no computed table, is in the midst of nothing, and has nothing raised or owed
pub record IsSettled (v : View) : Type 0 where
  pub op : v.shares.op ≡ Nothing
  pub walk : v.shares.walk ≡ Nothing
  pub order : v.shares.order ≡ Free
  pub full : v.shares.full ≡ Free
  pub idle : IsIdle v.hand
  pub levels : v.hand.levels ≡ []
  pub free : v.hand.free ≡ std.None
  pub board : v.draws.holds ≡ false
  pub memo : v.hand.memo ≡ false
  pub raised : v.counts.raised ≡ []
  pub owed : v.counts.owed ≡ []

-- each session that was given a seat has come back
abbrev pub AreBack : ℕ → List Gone → Type 0
AreBack given gone = (p : ℕ) → p < given → (k : ℕ) × (g : Gone) × (get_elem? gone k ≡ some g) × (g.session ≡ p)

-- A legal history of n calls, in which each session that came back has the entries that it had, which leaves each its rows, and which has none of sessions that there never were. What a session noted of the orders at a place is what the entries below that place leave. Once all sessions came back, each function that a sift's entry carries was at some place that of a row or a cell, or had just gone, or was about to come: there is no view left that has it raised.
pub record Whole (n : ℕ) (start : Sizes) (given : ℕ) (gone : List Gone) : Type 0 where
  pub log : List Entry
  pub legal : IsLegal start log
  pub count : length log ≡ n
  pub fixed : (table_after (opening start) log).sizes ≡ start
  pub placed : AreBack given gone → (i : ℕ) (e : Entry) → get_elem? log i ≡ some e → Each (IsPlaced start log [] (entries_of e.session (take i log)) i) (carried_by e.call)
  pub each : (k : ℕ) (g : Gone) → get_elem? gone k ≡ some g → entries_of g.session log ≡ g.entries
  pub rows : (k : ℕ) (g : Gone) → get_elem? gone k ≡ some g → (table_after (opening start) log).live g.session ≡ stands_for g.rows
  pub beyond : (p : ℕ) → given ≤ p → entries_of p log ≡ []
  pub noted : (k : ℕ) (g : Gone) → get_elem? gone k ≡ some g → Each (IsNotedIn start log) g.noted

abbrev pub closed : {S : Type 0} → Step S → Me S View → ℕ → Me S View → Type 0
closed st m r m' = (m' ≡ m) × (m.0.draws.closing ≡ true → Whole r (sizes_for m.0.draws.vars m.0.draws.elements) m.0.draws.given m.0.draws.gone)

module _ {S : Type 0} (board : S → List (std.Option Cell)) (free_slots : S → FreeSlots) (memo : S → List ℕ) where
  -- What the words and the slots of a table are after all sessions came back. The store that the node words are is sound; it keeps what the rows and the cells name. Where the phase word is 0 no swap is half made, and the orders are those that the history leaves. Where the word of a turn is 0 its slot has the board that the history leaves, the list of the free slots, or a computed table of which each entry holds.
  pub record Remains (z : Shape) (words : List ℕ) (slots : List (std.Option S)) (rows : List Row) (log : List Entry) : Type 0 where
    pub cells : List (std.Option Held)
    pub function : ℕ → std.Option Denoted
    pub half : std.Option Pair
    pub orders : Orders
    pub free_list : List ℕ
    pub sound : IsSound (content_of z (words_of z words).node orders function half)
    pub rows_kept : Each (λ (row : Row). IsHeldBy z function row.held) rows
    pub cells_kept : Each (IsKeptCell z function) cells
    pub cells_are : (table_after (opening (sizes_for z.variables z.elements)) log).cells ≡ cell_in cells
    pub calm : slice_index words 1 ≡ 0 → (half ≡ std.None) × (orders ≡ orders_from (opening_orders (sizes_for z.variables z.elements)) log)
    pub board_home : slice_index words 2 ≡ 0 → (x : S) × (get_elem? slots 0 ≡ some (std.Some x)) × (board x ≡ shown cells)
    pub free_home : slice_index words 3 ≡ 0 → (x : S) × (get_elem? slots 1 ≡ some (std.Some x)) × ((free_slots x).slots ≡ free_list)
    pub memo_home : slice_index words 5 ≡ 0 → (x : S) × (get_elem? slots 2 ≡ some (std.Some x)) × AreAnswers (view_of (content_of z (words_of z words).node orders function half)) (memo x)
    pub free_is : IsFreeList z (content_of z (words_of z words).node orders function half) (λ _. none) free_list

  abbrev pub Ends : List ℕ → List (std.Option S) → Draws → Type 0
  Ends words slots d = (whole : Whole (slice_index words 0) (sizes_for d.vars d.elements) d.given d.gone) × Remains (shape_in d) words slots d.rows whole.log
