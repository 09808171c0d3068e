-- The rows of a session as a finite map from names to edges.
use Rattle.std.specs.Prelude.{◌≡◌, ◌≢◌, ℕ, suc, ◌+◌, ◌<◌, ◌≤◌, ◌^◌, ◌⊎◌, if◌then◌else◌, List, [], ◌∷◌, ◌++◌, length, slice_index, slice_index_or, Option, Some, None, All}
use Rattle.function_laws.specs.declared.history.Name.{Name}
use Rattle.function_laws.specs.Tables.{same_name}
use Rattle.handle_count.specs.declared.rows.Held.{Held}
use Rattle.handle_count.specs.declared.rows.Row.{Row}

-- what a caller sees: the live rows by rising place, how many were added so far, and how many more take no memory
pub record RowMap : Type 0 where
  pub live : List Held
  pub adds : ℕ
  pub spare : ℕ

-- the row of a name
abbrev pub find_row : List Held → Name → Option Held
find_row [] name = None
find_row (held ∷ rest) name = if same_name name held.name then Some held else find_row rest name

-- the second list is the first with this row put in somewhere
pub record IsWithOne (old : List Held) (held : Held) (new : List Held) : Type 0 where
  pub before : List Held
  pub behind : List Held
  pub without : old ≡ before ++ behind
  pub with_it : new ≡ before ++ held ∷ behind

-- the row at a place
abbrev pub held_at : ℕ → Row → Held
held_at place row = record { name = record { row = place; generation = row.generation }; kind = row.kind; edge = row.edge }

-- the rows that stand at these places, of which the first has this number
abbrev pub live_from : ℕ → List (Option Row) → List Held
live_from first [] = []
live_from first (None ∷ places) = live_from (suc first) places
live_from first (Some row ∷ places) = held_at first row ∷ live_from (suc first) places

-- no row stands at these places, and none of them is listed twice
pub record AreFree (places : List (Option Row)) (free : List ℕ) : Type 0 where
  pub within : (i : ℕ) → i < length free → slice_index free i < length places
  pub vacant : (i : ℕ) → i < length free → slice_index_or places (slice_index free i) None ≡ None
  pub apart : (i j : ℕ) → i < j → j < length free → slice_index free i ≢ slice_index free j

-- the row was put at the last free place, or behind all places where none is free
pub record IsPut (places : List (Option Row)) (free : List ℕ) (row : Row) (new_places : List (Option Row)) (new_free : List ℕ) (place : ℕ) : Type 0 where
  pub vacant : AreFree new_places new_free
  pub live : IsWithOne (live_from 0 places) (held_at place row) (live_from 0 new_places)
  pub counts : (length new_places + length free ≡ length places + length new_free + 1) × (length new_free ≤ length free)
  pub grown : (length new_places ≡ length places) ⊎ ((length free ≡ 0) × (length new_places ≡ length places + 1))

-- The places without a row are free, the live rows and those to come have room, and each row's generation was given.
pub record AreRows (places : List (Option Row)) (places_room : ℕ) (free : List ℕ) (free_room adds spare : ℕ) : Type 0 where
  pub vacant : AreFree places free
  pub counted : length (live_from 0 places) + length free ≡ length places
  pub fits : length free ≤ spare
  pub has_room : length (live_from 0 places) + spare ≤ places_room
  pub has_free_room : length (live_from 0 places) + spare ≤ free_room
  pub few : length (live_from 0 places) + spare < 2 ^ 32
  pub given : All (λ (held : Held). held.name.generation < adds) (live_from 0 places)
