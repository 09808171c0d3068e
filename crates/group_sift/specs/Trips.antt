-- What a loop over the places of one variable does, by the sizes of orders alone.
use Rattle.std.specs.Prelude.{◌≡◌, ℕ, ◌+◌, ◌*◌, ◌<◌, ◌≤◌, nat_lt, min, ◌⊎◌, if◌then◌else◌, List, length, slice_index}
use Rattle.std.specs.List.{swap}
use Rattle.function_laws.specs.SiftedOrders.{Line, Met, Measure, reach, least_of, first_least, moved}

-- where a loop in one direction stands: the place, the least size so far, the first place of the smallest size, and how many moves were made
pub record Stand : Type 0 where
  pub place : ℕ
  pub least : ℕ
  pub best : Met
  pub count : ℕ

-- after a move to a place of this size
abbrev pub stand_at : ℕ → ℕ → Stand → Stand
stand_at to size now = record {
  place = to;
  least = min now.least size;
  best = if nat_lt size now.best.size then record { place = to; size = size } else now.best;
  count = now.count + 1;
}

-- A loop that stands there, with so many moves left, ends like this.
pub record EndsAs (line : Line) (next : ℕ → ℕ) (steps : ℕ) (now end : Stand) : Type 0 where
  pub least : end.least ≡ least_of now.least (reach line next steps now.place now.least)
  pub best : end.best ≡ first_least now.best (reach line next steps now.place now.least)
  pub count : end.count ≡ now.count + length (reach line next steps now.place now.least)

-- the size, and the room that the swap of a level and the next asks for
abbrev pub asked : Measure → List ℕ → ℕ → ℕ
asked m now level = m.size_of now + (2 * m.width_of now (slice_index now level) + m.width_of now (slice_index now (level + 1)))

-- there is room for the swap of a level and the next: as the rule asks for it, or as a swap back needs it
abbrev pub HasReserve : Measure → ℕ → List ℕ → ℕ → Type 0
HasReserve m limit now level = asked m now level ≤ limit

abbrev pub HasReturn : Measure → ℕ → List ℕ → ℕ → Type 0
HasReturn m limit now level = m.size_of now + m.width_of (swap now level (level + 1)) (slice_index now level) ≤ limit

abbrev pub CanSwap : Measure → ℕ → List ℕ → ℕ → Type 0
CanSwap m limit now level = HasReserve m limit now level ⊎ HasReturn m limit now level

-- The one at place p may go from each place to its neighbour, from lo to hi, both ways.
abbrev pub IsOpenFor : Measure → ℕ → List ℕ → ℕ → ℕ → ℕ → Type 0
IsOpenFor m limit order p lo hi = (q : ℕ) → lo ≤ q → q < hi → CanSwap m limit (moved order p q) q × CanSwap m limit (moved order p (q + 1)) q
