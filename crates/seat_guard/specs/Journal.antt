-- The part of the journal: one legal history, of which each seat knows its session's entries.
use Rattle.std.specs.Prelude.{◌≡◌, ◌≢◌, ℕ, suc, ◌+◌, ◌==◌, ◌^◌, ◌<◌, ◌≤◌, List, [], ◌∷◌, map, length, slice_index, Bool, true, false, All}
use Rattle.std.specs.Prelude as std
use mathlib.Core.Option.{Option, none, some}
use lib.ListN.{get_elem?}
use Rattle.edge_bits.specs.declared.limits.TheConstants.{MOST_SESSIONS}
use Rattle.function_laws.specs.declared.history.Name.{Name}
use Rattle.function_laws.specs.declared.history.Function.{Function}
use Rattle.function_laws.specs.declared.history.Entry.{Entry}
use Rattle.function_laws.specs.Tables.{Table, Sizes, opening}
use Rattle.function_laws.specs.Histories.{IsLegal, table_after}
use Rattle.function_laws.specs.EntryOrders.{EachWith, opening_orders}
use Rattle.function_laws.specs.Widening.{AgreesAt}
use Rattle.function_laws.specs.SessionEntries.{Each, entries_of}
use Rattle.seat_guard.specs.declared.view.Row.{Row}
use Rattle.seat_guard.specs.declared.view.Gone.{Gone}
use Rattle.seat_guard.specs.declared.view.Draws.{Draws}
use Rattle.seat_guard.specs.Known.{StandsIn, sizes_for}
use Rattle.seat_guard.specs.Finds.{Finds}
use Rattle.seat_guard.specs.Notes.{AreNotedIn}
use Rattle.seat_guard.specs.Views.{Agrees, stands_for}

-- what the rule says of a live seat, and of the closing one
pub record LiveFits (turn : ℕ) (log : List Entry) (t : Table) (seat : ℕ → Option ℕ) (id : ℕ) (d : Draws) : Type 0 where
  pub seated : seat d.session ≡ some id
  pub below : d.session < MOST_SESSIONS
  pub mine : entries_of d.session log ≡ d.entries
  pub agrees : Agrees d t
  pub held : d.holds ≡ true → turn ≡ suc d.session
  -- its names were given, each row's stands for the row's function
  pub given : (name : Name) (f : Function) → t.live d.session name ≡ std.Some f → t.given d.session name ≡ true
  pub stand : Each (StandsIn t d.session) d.rows

pub record IsUnused (log : List Entry) (t : Table) (seat : ℕ → Option ℕ) (p : ℕ) : Type 0 where
  pub no_seat : seat p ≡ none
  pub no_entry : entries_of p log ≡ []
  pub no_row : t.live p ≡ (λ (name : Name). std.None)
  pub no_name : t.given p ≡ (λ (name : Name). false)

-- a row that a session left behind
abbrev pub IsLeftRow : Table → (ℕ → Option ℕ) → ℕ → Row → Type 0
IsLeftRow t seat given row = (p : ℕ) × (p < given) × (seat p ≡ none) × StandsIn t p row

pub record ClosingFits (start : Sizes) (log : List Entry) (t : Table) (seat : ℕ → Option ℕ) (d : Draws) : Type 0 where
  pub few : (d.given ≤ d.sessions) × (d.sessions ≤ MOST_SESSIONS)
  pub start_is : start ≡ sizes_for d.vars d.elements
  pub later : (p : ℕ) → d.given ≤ p → IsUnused log t seat p
  pub back : (k : ℕ) (g : Gone) → get_elem? d.gone k ≡ some g → (g.session < d.given) × (seat g.session ≡ none) × (entries_of g.session log ≡ g.entries) × AgreesAt t.sizes (stands_for g.rows) (t.live g.session) × AreNotedIn start log g.session g.noted g.placed × (t.sizes ≡ sizes_for g.vars g.elements)
  pub left : Each (IsLeftRow t seat d.given) d.rows

pub record Fits (turn : ℕ) (start : Sizes) (log : List Entry) (t : Table) (seat : ℕ → Option ℕ) (id : ℕ) (d : Draws) : Type 0 where
  pub live : d.live ≡ true → LiveFits turn log t seat id d
  pub closing : d.closing ≡ true → (d.live ≡ false) × (id ≡ 0) × ClosingFits start log t seat d
  pub holder : d.holds ≡ true → d.live ≡ true
  pub rowless : d.live ≡ false → d.closing ≡ false → d.rows ≡ []
  pub noted : AreNotedIn start log d.session d.noted d.placed

-- The part of the journal: there is one legal history, whose length is the journal word, and each seat knows its session's entries of it. What it noted at a place, and what there was at the places of its calls, is what the entries below that place leave.
pub record Journal (place turn : ℕ) (ds : List Draws) (start : Sizes) (log : List Entry) (table : Table) : Type 0 where
  pub seat : ℕ → Option ℕ
  pub legal : IsLegal start log
  pub leaves : table_after (opening start) log ≡ table
  pub fixed : table.sizes ≡ start
  pub drawn : place ≡ length log
  pub bounded : (p : ℕ) → length (entries_of p log) ≤ 2 ^ 48
  pub beyond : (p : ℕ) → MOST_SESSIONS ≤ p → entries_of p log ≡ []
  -- a sift's entry carries both orders as the entries below it leave them, and the functions of its session's rows among others
  pub found : EachWith Finds (opening start) (opening_orders start) log
  pub each : (id : ℕ) (d : Draws) → get_elem? ds id ≡ some d → Fits turn start log table seat id d
