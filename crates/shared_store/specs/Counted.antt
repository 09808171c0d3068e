-- How slots are counted, as who has the turn reads it out of the count words.
use Rattle.std.specs.Prelude.{◌≡◌, ◌≢◌, ℕ, ◌<◌, ◌≤◌, Some}
use mathlib.Core.Option.{some}
use lib.ListN.{get_elem?}
use Rattle.function_laws.specs.declared.history.Function.{Function}
use Rattle.function_laws.specs.Kinds.{Denoted}
use Rattle.seat_guard.specs.declared.view.Held.{Held}
use Rattle.seat_guard.specs.declared.view.Counts.{Counts}
use Rattle.seat_guard.specs.declared.view.Draws.{Draws}
use Rattle.seat_guard.specs.Known.{known_at}
use Rattle.seat_guard.specs.Tallies.{cells_count, held_count, row_count, times}
use Rattle.shared_store.specs.declared.shared.Shared.{Shared}
use Rattle.shared_store.specs.Sharing.{count, keeps, view_of}

-- The slot was found at 0: nothing that the seat holds names it, and no cell.
pub record IsUncounted (k : ℕ) (d : Draws) (c : Counts) : Type 0 where
  pub zero : 0 < times k c.zeros
  pub rows : row_count k d.rows ≡ 0
  pub raised : held_count k c.raised ≡ 0
  pub owed : held_count k c.owed ≡ 0
  pub cells : cells_count k d.cells ≡ 0

-- a function of a slot that was found counted
abbrev pub IsNoted : Counts → Function → Type 0
IsNoted c f = (i : ℕ) × (get_elem? c.above i ≡ some f)

-- It was found above 0: it is the slot of an edge that the content keeps, whose function was noted.
pub record IsCounted (k : ℕ) (x : Shared) (d : Draws) (c : Counts) : Type 0 where
  pub held : Held
  pub at : held.edge.index ≡ k
  pub kept : keeps x held
  pub noted : IsNoted c (known_at d held.function)

-- the content has it so
pub record IsRead (k : ℕ) (x : Shared) (d : Draws) (c : Counts) : Type 0 where
  pub none : count x k ≡ 0 → IsUncounted k d c
  pub some : 0 < count x k → IsCounted k x d c

-- and it has each slot so that denotes a function
abbrev pub AreRead : Shared → Draws → Counts → Type 0
AreRead x d c = (k : ℕ) (f : Denoted) → (view_of x).content k ≡ Some f → IsRead k x d c

-- only what was noted of counts changed
pub record IsFound (c c' : Counts) : Type 0 where
  pub raised : c'.raised ≡ c.raised
  pub owed : c'.owed ≡ c.owed
  pub pins : c'.pins ≡ c.pins

-- and that of one slot
pub record IsFoundAt (k : ℕ) (c c' : Counts) : Type 0 where
  pub found : IsFound c c'
  pub others : (j : ℕ) → j ≢ k → times j c'.zeros ≡ times j c.zeros
  pub more : (j : ℕ) → times j c.zeros ≤ times j c'.zeros
  pub noted : (f : Function) → IsNoted c f → IsNoted c' f
