-- What a sift's entry carries: at some place each of the functions was that of a row or a cell, or had just gone, or was about to come.
use Rattle.std.specs.Prelude.{◌≡◌, ◌⊎◌, ℕ, ◌<◌, ◌≤◌, List, [], ◌∷◌, ◌++◌, take, drop, length, true, All, Some}
use mathlib.Core.Option.{some}
use lib.ListN.{get_elem?}
use Rattle.function_laws.specs.declared.history.Function.{Function}
use Rattle.function_laws.specs.declared.history.Call.{Call}
use Rattle.function_laws.specs.declared.history.Call.TheVariants.{DropRow, Post}
use Rattle.function_laws.specs.declared.history.Reply.{Reply}
use Rattle.function_laws.specs.declared.history.Reply.TheVariants.{Made, Chose, Fetched, Done}
use Rattle.function_laws.specs.declared.history.Entry.{Entry}
use Rattle.function_laws.specs.Histories.{table_after}
use Rattle.function_laws.specs.SessionEntries.{Each, entries_of}
use Rattle.function_laws.specs.SiftEntries.{AreOne, IsOfCell, IsOfRow}
use Rattle.function_laws.specs.Steps.{after}
use Rattle.function_laws.specs.Tables.{Table, Sizes, opening}
use Rattle.function_laws.specs.Widening.{at_sizes}
use Rattle.seat_guard.specs.declared.view.Held.{Held}
use Rattle.seat_guard.specs.declared.view.View.{View}
use Rattle.seat_guard.specs.Finds.{carried_by}

-- the call takes the function away: of a row, or of a cell in which another comes
abbrev pub Loses : Table → ℕ → Call → Function → Type 0
Loses t s (DropRow a) g = t.live s a ≡ Some g
Loses t s (Post i a) g = t.cells i ≡ Some g
Loses t s call g = ⊥

-- the call and its reply add the function: as a new row's, or a cell's
abbrev pub Gains : Table → ℕ → Call → Reply → Function → Type 0
Gains t s call (Made r) g = (after t s call (Made r)).live s r ≡ Some g
Gains t s call (Chose r h) g = (after t s call (Chose r h)).live s r ≡ Some g
Gains t s call (Fetched r posted) g = (after t s call (Fetched r posted)).live s r ≡ Some g
Gains t s (Post i a) Done g = t.live s a ≡ Some g
Gains t s call reply g = ⊥

-- the last of these entries of its session took it away
pub record LastLoses (start : Sizes) (log : List Entry) (f : Function) : Type 0 where
  pub before : List Entry
  pub entry : Entry
  pub behind : List Entry
  pub are : log ≡ before ++ entry ∷ behind
  pub last : entries_of entry.session behind ≡ []
  pub function : Function
  pub one : AreOne f function
  pub loses : Loses (table_after (opening start) before) entry.session entry.call function

-- the first entry of its session behind these adds it
pub record FirstGains (start : Sizes) (low high : List Entry) (f : Function) : Type 0 where
  pub before : List Entry
  pub entry : Entry
  pub behind : List Entry
  pub are : high ≡ before ++ entry ∷ behind
  pub first : entries_of entry.session before ≡ []
  pub function : Function
  pub one : AreOne f function
  pub gains : Gains (table_after (opening start) (low ++ before)) entry.session entry.call entry.reply function

-- a session without an entry behind has a slot with it raised
pub record IsRaised (start : Sizes) (high : List Entry) (vs : List View) (f : Function) : Type 0 where
  pub id : ℕ
  pub view : View
  pub at : get_elem? vs id ≡ some view
  pub live : view.draws.live ≡ true
  pub none_behind : entries_of view.draws.session high ≡ []
  pub index : ℕ
  pub held : Held
  pub raised : get_elem? view.counts.raised index ≡ some held
  pub one : AreOne f (at_sizes start held.function)

-- by the entries alone: it was had at the place j, was lost last below it, or comes first from it on
abbrev pub IsHadAt : Sizes → List Entry → ℕ → Function → Type 0
IsHadAt start log j f =
    (IsOfRow (table_after (opening start) (take j log)) f ⊎ IsOfCell (table_after (opening start) (take j log)) f)
    ⊎ (LastLoses start (take j log) f ⊎ FirstGains start (take j log) (drop j log) f)

-- or it is raised
abbrev pub IsAtPlace : Sizes → List Entry → List View → ℕ → Function → Type 0
IsAtPlace start log vs j f = IsHadAt start log j f ⊎ IsRaised start (drop j log) vs f

-- it is so at a place behind the last of these entries, and at most here
pub record IsPlaced (Is : ℕ → Function → Type 0) (own : List Entry) (most : ℕ) (f : Function) : Type 0 where
  pub place : ℕ
  pub within : place ≤ most
  pub later : All (λ (e : Entry). e.place < place) own
  pub is : Is place f

-- so it is of each function that an entry carries
abbrev pub ArePlaced : (ℕ → Function → Type 0) → List Entry → Type 0
ArePlaced Is log = (i : ℕ) (e : Entry) → get_elem? log i ≡ some e → Each (IsPlaced Is (entries_of e.session (take i log)) i) (carried_by e.call)

-- what a live seat owes went by its last entry
abbrev pub OwesLast : Sizes → List Entry → ℕ → Held → Type 0
OwesLast start log s held = (l : LastLoses start log (at_sizes start held.function)) × (l.entry.session ≡ s) × (l.function ≡ at_sizes start held.function)

pub record Sifts (start : Sizes) (log : List Entry) (vs : List View) : Type 0 where
  pub carried : ArePlaced (IsAtPlace start log vs) log
  -- what a seat noted since its last entry
  pub noted : (id : ℕ) (v : View) → get_elem? vs id ≡ some v → v.draws.live ≡ true → Each (IsPlaced (IsAtPlace start log vs) (entries_of v.draws.session log) (length log)) v.counts.above
  pub owes : (id : ℕ) (v : View) → get_elem? vs id ≡ some v → v.draws.live ≡ true → Each (OwesLast start log v.draws.session) v.counts.owed
