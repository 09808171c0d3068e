-- The variables of node lines, by the ranks of their positions.
use Rattle.std.specs.Prelude.{◌≡◌, ℕ, ◌<◌, ◌==◌, nat_lt, Bool, ◌&&◌, ◌||◌, List, length, count_by, find, slice_index}
use Rattle.std.specs.List.{range_with_len}
use Rattle.std.specs.Option.{unwrap_or}
use Rattle.diagram_dumps.specs.declared.dump.Dump.{Dump}
use Rattle.diagram_dumps.specs.Dumps.{place_among}

-- the entry at the first place is less than that at the second, or equal and before it
abbrev pub comes_before : List ℕ → ℕ → ℕ → Bool
comes_before entries i j =
    nat_lt (slice_index entries i) (slice_index entries j) || (slice_index entries i == slice_index entries j && nat_lt i j)

-- the rank of a place among the entries, from 0: how many come before it
abbrev pub rank_of : List ℕ → ℕ → ℕ
rank_of entries i = count_by (λ j. comes_before entries j i) (range_with_len 0 (length entries))

-- the place of a rank; 0 if there is none
abbrev pub place_of : List ℕ → ℕ → ℕ
place_of entries rank = unwrap_or (find (λ i. rank_of entries i == rank) (range_with_len 0 (length entries))) 0

-- the entry at a place, with the place
abbrev pub placed : List ℕ → ℕ → ℕ × ℕ
placed entries place = (slice_index entries place, place)

-- the places of all entries, by their ranks
pub record AreByRank (entries places : List ℕ) : Type 0 where
  pub as_many : length places ≡ length entries
  pub within : (rank : ℕ) → rank < length entries → slice_index places rank < length entries
  pub ranked : (rank : ℕ) → rank < length entries → rank_of entries (slice_index places rank) ≡ rank

-- the variable of an internal index: the id at the place of this rank among the positions
abbrev pub variable_of : List ℕ → List ℕ → ℕ → ℕ
variable_of ids permids internal = slice_index ids (place_of permids internal)

-- the variables of all internal indices
pub record AreVariables (ids permids variables : List ℕ) : Type 0 where
  pub as_many : length variables ≡ length permids
  pub told : (internal : ℕ) → internal < length permids → slice_index variables internal ≡ variable_of ids permids internal

-- the internal index of a variable: the rank of its position
abbrev pub internal_of : Dump → ℕ → ℕ
internal_of dump var = rank_of dump.permids (place_among dump.ids var)
