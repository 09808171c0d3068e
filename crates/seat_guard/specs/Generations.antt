-- The slot of a row, or one that is raised, has the generation that its seat notes.
use Rattle.std.specs.Prelude.{◌≡◌, ℕ, ◌+◌, ◌<◌, List}
use mathlib.Core.Option.{some}
use lib.ListN.{get_elem?}
use Rattle.handle_count.specs.CountWords.{generation_of}
use Rattle.function_laws.specs.SessionEntries.{Each}
use Rattle.seat_guard.specs.declared.view.Row.{Row}
use Rattle.seat_guard.specs.declared.view.SlotGeneration.{SlotGeneration}
use Rattle.seat_guard.specs.declared.view.View.{View}
use Rattle.seat_guard.specs.Tallies.{row_count, held_count}

-- how many rows and raised slots of the view name the slot
abbrev pub names : ℕ → View → ℕ
names k v = row_count k v.draws.rows + held_count k v.counts.raised

abbrev pub IsOfSlot : (ℕ → ℕ) → View → SlotGeneration → Type 0
IsOfSlot count v g = 0 < names g.slot v → generation_of (count g.slot) ≡ g.generation

abbrev pub IsOfRow : (ℕ → ℕ) → Row → Type 0
IsOfRow count row = generation_of (count row.held.edge.index) ≡ row.generation

abbrev pub Generations : (ℕ → ℕ) → List View → Type 0
Generations count vs = (id : ℕ) (v : View) → get_elem? vs id ≡ some v → Each (IsOfSlot count v) v.counts.generations

abbrev pub RowGenerations : (ℕ → ℕ) → List View → Type 0
RowGenerations count vs = (id : ℕ) (v : View) → get_elem? vs id ≡ some v → Each (IsOfRow count) v.draws.rows
