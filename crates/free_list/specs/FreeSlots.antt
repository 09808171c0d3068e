-- What a free list is.
use Rattle.std.specs.Prelude.{ℕ, ◌-◌, List, [], ◌∷◌}
use Rattle.std.specs.List.{range_with_len}

-- its slots, the next one first, and for how many it has room
pub record FreeSlots : Type 0 where
  pub slots : List ℕ
  pub room : ℕ

-- the slots of a free list that something carries
abbrev pub slots_in : {S : Type 0} → (S → FreeSlots) → S → List ℕ
slots_in free_slots x = (free_slots x).slots

-- the numbers of a list before those of another, the last first
abbrev pub stacked : List ℕ → List ℕ → List ℕ
stacked [] tail = tail
stacked (s ∷ ss) tail = stacked ss (s ∷ tail)

-- those that were freed, the last first, and then those that were never taken
abbrev pub free_slots : List ℕ → ℕ → ℕ → List ℕ
free_slots freed next limit = stacked freed (range_with_len next (limit - next))
