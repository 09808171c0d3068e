-- The part of the counts: each count word is the rows, cells, pins, raised and owed counts of its slot.
use Rattle.std.specs.Prelude.{◌≡◌, ℕ, ◌+◌, ◌*◌, ◌<◌, ◌≤◌, ◌==◌, if◌then◌else◌, Bool, true, false, List, [], ◌∷◌, length, slice_get}
use Rattle.std.specs.Prelude as std
use mathlib.Core.Option.{some}
use lib.ListN.{get_elem?}
use Rattle.edge_bits.specs.declared.limits.TheConstants.{CELLS, MOST_ROWS, MOST_SESSIONS}
use Rattle.handle_count.specs.CountWords.{count_of}
use Rattle.function_laws.specs.declared.history.Name.{Name}
use Rattle.function_laws.specs.SessionEntries.{Each}
use Rattle.function_laws.specs.Tables.{same_name}
use Rattle.seat_guard.specs.declared.view.Held.{Held}
use Rattle.seat_guard.specs.declared.view.SlotGeneration.{SlotGeneration}
use Rattle.seat_guard.specs.declared.view.Row.{Row}
use Rattle.seat_guard.specs.declared.view.Change.{Change}
use Rattle.seat_guard.specs.declared.view.Change.TheVariants.{Adds, Takes, Posts}
use Rattle.seat_guard.specs.declared.view.Counts.{Counts}
use Rattle.seat_guard.specs.declared.view.View.{View}
use Rattle.seat_guard.specs.Allots.{parts_of, sessions_of}
use Rattle.seat_guard.specs.Totals.{total}

abbrev pub one_if : Bool → ℕ
one_if true = 1
one_if false = 0

-- how many of these rows, edges, cells and slots name the slot k
abbrev pub row_count : ℕ → List Row → ℕ
row_count k [] = 0
row_count k (row ∷ rows) = one_if (row.held.edge.index == k) + row_count k rows

abbrev pub held_count : ℕ → List Held → ℕ
held_count k [] = 0
held_count k (held ∷ others) = one_if (held.edge.index == k) + held_count k others

abbrev pub cells_count : ℕ → List (std.Option Held) → ℕ
cells_count k [] = 0
cells_count k (std.None ∷ cells) = cells_count k cells
cells_count k (std.Some held ∷ cells) = one_if (held.edge.index == k) + cells_count k cells

abbrev pub times : ℕ → List ℕ → ℕ
times k [] = 0
times k (x ∷ xs) = one_if (x == k) + times k xs

-- what a view holds of the counts
pub record Tally : Type 0 where
  pub rows : List Row
  pub counts : Counts
  pub sessions : ℕ
  pub parts : ℕ

abbrev pub tally_of : View → Tally
tally_of v = record { rows = v.draws.rows; counts = v.counts; sessions = sessions_of v.draws; parts = parts_of v.draws }

-- each edge that it holds, of a row, raised or owed
pub record EachHeld (P : Held → Type 0) (t : Tally) : Type 0 where
  pub rows : Each (λ (row : Row). P row.held) t.rows
  pub raised : Each P t.counts.raised
  pub owed : Each P t.counts.owed

-- how often it holds the slot k
abbrev pub refs : ℕ → Tally → ℕ
refs k t = row_count k t.rows + held_count k t.counts.raised + held_count k t.counts.owed + times k t.counts.pins

-- how many rows and counts it has
abbrev pub size : Tally → ℕ
size t = length t.rows + length t.counts.raised + length t.counts.owed

abbrev pub parts : Tally → ℕ
parts t = t.parts

-- a seat has at most so many rows and counts as its sessions may have, and at most as many sessions as parts
abbrev pub IsSmall : Tally → Type 0
IsSmall t = (size t ≤ t.sessions * MOST_ROWS) × (t.sessions ≤ t.parts)

pub record Counted (count : ℕ → ℕ) (cells : List (std.Option Held)) (ts : List Tally) : Type 0 where
  pub counted : (k : ℕ) → count_of (count k) ≡ total (refs k) ts + cells_count k cells
  pub most : total parts ts ≤ MOST_SESSIONS
  pub few_cells : length cells ≡ CELLS
  pub small : (id : ℕ) (t : Tally) → get_elem? ts id ≡ some t → IsSmall t
  -- who pins has a session, and pins a slot once
  pub pinned : (id : ℕ) (t : Tally) → get_elem? ts id ≡ some t → (k : ℕ) → times k t.counts.pins ≤ t.sessions
  -- a count that was found at 0 is what that seat itself holds
  pub still : (id : ℕ) (t : Tally) → get_elem? ts id ≡ some t → (k : ℕ) → 0 < times k t.counts.zeros → count_of (count k) ≡ refs k t

-- A draw moves what was raised into a row or a cell, and what goes out of one is owed.

-- the rows of a name, as edges
abbrev pub named : Name → List Row → List Held
named name [] = []
named name (row ∷ rows) = if same_name row.name name then (row.held ∷ named name rows) else named name rows

-- the rows but that of a name
abbrev pub without : Name → List Row → List Row
without name [] = []
without name (row ∷ rows) = if same_name row.name name then without name rows else (row ∷ without name rows)

abbrev pub rows_after : Change → List Row → List Row
rows_after (Adds row) rows = row ∷ rows
rows_after (Takes name) rows = without name rows
rows_after _ rows = rows

abbrev pub cells_after : Change → List (std.Option Held) → List (std.Option Held)
cells_after (Posts i held) cells = std.slice_set cells i (std.Some held)
cells_after _ cells = cells

abbrev pub in_cell : std.Option (std.Option Held) → List Held
in_cell (std.Some (std.Some held)) = held ∷ []
in_cell _ = []

-- what the change adds, and what it takes away
abbrev pub gained : Change → List Held
gained (Adds row) = row.held ∷ []
gained (Posts i held) = held ∷ []
gained _ = []

abbrev pub lost : Change → List (std.Option Held) → List Row → List Held
lost (Takes name) cells rows = named name rows
lost (Posts i held) cells rows = in_cell (slice_get cells i)
lost _ cells rows = []

-- what was found above 0 counts until the next entry
abbrev pub counts_after : Change → List (std.Option Held) → List Row → Counts → Counts
counts_after change cells rows c = record c { raised = []; owed = lost change cells rows; above = [] }

abbrev pub FitsBoard : Change → List (std.Option Held) → Type 0
FitsBoard (Posts i held) cells = i < length cells
FitsBoard _ cells = Unit {0}

-- what the change adds was raised before, and no more; nothing is owed
abbrev pub HasRaised : Change → List (std.Option Held) → Counts → Type 0
HasRaised change cells c = (c.raised ≡ gained change) × (c.owed ≡ []) × FitsBoard change cells

-- who noted a count at 0 posts nothing
abbrev pub NotesNothing : Change → Counts → Type 0
NotesNothing (Posts i held) c = c.zeros ≡ []
NotesNothing _ c = Unit {0}

abbrev pub tally_after : Change → List (std.Option Held) → Tally → Tally
tally_after change cells t = record t { rows = rows_after change t.rows; counts = counts_after change cells t.rows t.counts }

-- what else becomes of the counts

abbrev pub no_counts : Counts
no_counts = record { raised = []; owed = []; pins = []; zeros = []; above = []; generations = [] }

-- the generation of the slot is told, in place of what was noted of it
abbrev pub retell : ℕ → ℕ → List SlotGeneration → List SlotGeneration
retell k g [] = record { slot = k; generation = g } ∷ []
retell k g (x ∷ xs) = if x.slot == k then retell k g xs else (x ∷ retell k g xs)

-- what was noted of a slot's generation
abbrev pub noted_of : ℕ → List SlotGeneration → std.Option ℕ
noted_of k [] = std.None
noted_of k (x ∷ xs) = if x.slot == k then std.Some x.generation else noted_of k xs

-- the first of these that names the slot goes
abbrev pub paid : ℕ → List Held → List Held
paid k [] = []
paid k (held ∷ others) = if held.edge.index == k then others else (held ∷ paid k others)

abbrev pub unpinned : ℕ → List ℕ → List ℕ
unpinned k [] = []
unpinned k (x ∷ xs) = if x == k then xs else (x ∷ unpinned k xs)

-- a slot is raised, of this generation; what was owed of one is paid
abbrev pub raised_by : Held → ℕ → Counts → Counts
raised_by held g c = record c { raised = held ∷ c.raised; generations = retell held.edge.index g c.generations }

abbrev pub lowered_by : ℕ → Counts → Counts
lowered_by k c = record c { owed = paid k c.owed }

-- one pin more, and one less
abbrev pub pinned_by : ℕ → Counts → Counts
pinned_by k c = record c { pins = k ∷ c.pins }

abbrev pub unpinned_by : ℕ → Counts → Counts
unpinned_by k c = record c { pins = unpinned k c.pins }

-- a slot's generation was found, and its count at 0; or above 0, by whoever holds it; or above 0 while it was pinned
abbrev pub found_at : ℕ → ℕ → Counts → Counts
found_at k g c = record c { generations = retell k g c.generations }
