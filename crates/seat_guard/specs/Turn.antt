-- The part of the turn: what all share is in its slot, or who has it knows what all others hold.
use Rattle.std.specs.Prelude.{◌≡◌, ◌≢◌, ℕ, List, [], length, true}
use Rattle.std.specs.Prelude as std
use mathlib.Core.Option.{Option, some}
use lib.ListN.{get_elem?}
use Rattle.function_laws.specs.Tables.{Table}
use Rattle.function_laws.specs.SessionEntries.{Each}
use Rattle.function_laws.specs.Sizes.{Orders}
use Rattle.seat_guard.specs.declared.view.Held.{Held}
use Rattle.seat_guard.specs.declared.view.Row.{Row}
use Rattle.seat_guard.specs.declared.view.Counts.{Counts}
use Rattle.seat_guard.specs.declared.view.Draws.{Draws}
pub use Rattle.seat_guard.specs.Tallies.{one_if, row_count, held_count, cells_count}
use Rattle.seat_guard.specs.Tallies.{EachHeld, Tally, times}
use Rattle.seat_guard.specs.Views.{cell_at, orders_of}

-- the list has this edge with this function
abbrev pub Has : List Held → Held → Type 0
Has others held = (k : ℕ) × (get_elem? others k ≡ some held)

-- the seat of a session, or the closing one, knows these numbers of slots and of sessions
abbrev pub IsSized : ℕ → ℕ → Draws → Type 0
IsSized slots sessions d = (d.live ≡ true → (d.slots ≡ slots) × (d.sessions ≡ sessions)) × (d.closing ≡ true → (d.slots ≡ slots) × (d.sessions ≡ sessions))

abbrev pub AreSized : ℕ → ℕ → List Draws → Type 0
AreSized slots sessions ds = (id : ℕ) (d : Draws) → get_elem? ds id ≡ some d → IsSized slots sessions d

module _ {S : Type 0} (keeps : S → Held → Type 0) (board : S → List (std.Option Held)) (counts : S → ℕ × ℕ × ℕ) (orders : S → Orders) where
  abbrev pub IsKeptCell : S → std.Option Held → Type 0
  IsKeptCell x std.None = Unit {0}
  IsKeptCell x (std.Some held) = keeps x held

  abbrev pub KeepsRows : S → List Row → Type 0
  KeepsRows x rows = Each (λ (row : Row). keeps x row.held) rows

  -- an edge of another is kept, but where its slot's count was found at 0 since: nobody has it then
  abbrev pub IsKeptOther : S → Counts → Held → Type 0
  IsKeptOther x c held = times held.edge.index c.zeros ≡ 0 → keeps x held

  -- the content keeps all that the seat which has the turn knows: what it holds itself, what others held, and the board
  pub record Serves (x : S) (d : Draws) (c : Counts) : Type 0 where
    pub rows_kept : KeepsRows x d.rows
    pub raised_kept : Each (keeps x) c.raised
    pub owed_kept : Each (keeps x) c.owed
    pub others_kept : Each (IsKeptOther x c) d.others
    pub cells_kept : Each (IsKeptCell x) d.cells
    pub board_is : board x ≡ d.cells
    pub counts_are : counts x ≡ (d.vars, d.elements, d.slots)
    pub orders_are : orders x ≡ orders_of d

  -- the content at home: it has these cells and orders, the table's sizes, so many slots, and keeps the cells and what each seat holds
  pub record IsHome (slots : ℕ) (x : S) (ts : List Tally) (cells : List (std.Option Held)) (t : Table) (now : Orders) : Type 0 where
    pub board_is : board x ≡ cells
    pub cells_kept : Each (IsKeptCell x) cells
    pub counts_are : counts x ≡ (t.sizes.variables, t.sizes.elements, slots)
    pub kept : (j : ℕ) (u : Tally) → get_elem? ts j ≡ some u → EachHeld (keeps x) u
    pub orders_are : orders x ≡ now

  -- The part of the turn: where the turn word is 0 the content is at home. Where it is not, who has it knows what all others hold, the cells and the orders. Others may copy what they have and drop it meanwhile, so what they hold is among what the holder knows.
  pub record Turn (slots turn : ℕ) (home : Option (Option (std.Option S))) (ds : List Draws) (ts : List Tally) (cells : List (std.Option Held)) (t : Table) (now : Orders) : Type 0 where
    pub home_is : turn ≡ 0 → (x : S) × (home ≡ some (some (std.Some x))) × IsHome slots x ts cells t now
    pub cells_are : t.cells ≡ cell_at t.sizes cells
    pub held : (id : ℕ) (d : Draws) → get_elem? ds id ≡ some d → d.holds ≡ true → d.cells ≡ cells
    pub away : (id : ℕ) (d : Draws) → get_elem? ds id ≡ some d → d.holds ≡ true → (j : ℕ) (u : Tally) → j ≢ id → get_elem? ts j ≡ some u → EachHeld (Has d.others) u
    pub ordered : (id : ℕ) (d : Draws) → get_elem? ds id ≡ some d → d.holds ≡ true → orders_of d ≡ now
