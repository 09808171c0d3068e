-- What rows, cells, raised and owed counts name: a slot that is in use and denotes the function. The board.
use Rattle.std.specs.Prelude.{◌≡◌, ℕ, ◌+◌, ◌<◌, ◌^◌, List, true, Some, None}
use Rattle.std.specs.Prelude as std
use mathlib.Core.Option.{Option, some}
use lib.ListN.{get_elem?}
use Rattle.function_laws.specs.declared.history.Function.{Function}
use Rattle.function_laws.specs.declared.history.Function.TheVariants.{Bdd, Add, Zdd}
use Rattle.function_laws.specs.Kinds.{Denoted, BddFunction, AddFunction, ZddFamily, flipped}
use Rattle.function_laws.specs.Values.{projection}
use Rattle.function_laws.specs.Lists.{list_of}
use Rattle.function_laws.specs.SessionEntries.{Each}
use Rattle.function_laws.specs.Tables.{Table}
use Rattle.words_rule.specs.declared.cell.Cell.{Cell}
use Rattle.words_rule.specs.declared.view.Held.{Held}
use Rattle.words_rule.specs.declared.view.Row.{Row}
use Rattle.words_rule.specs.declared.view.Draws.{Draws}
use Rattle.words_rule.specs.Views.{cell_in, shown}
use Rattle.words_rule.specs.Layout.{Shape}
use Rattle.words_rule.specs.Tallies.{Tally}

-- what a slot denotes, as a whole list
abbrev pub whole_of : Shape → Denoted → Function
whole_of z (BddFunction f) = Bdd (list_of (2 ^ z.variables) f)
whole_of z (AddFunction f) = Add (list_of (2 ^ z.variables) f)
whole_of z (ZddFamily p) = Zdd (list_of (2 ^ z.elements) p)

abbrev pub IsHeldBy : Shape → (ℕ → std.Option Denoted) → Held → Type 0
IsHeldBy z function held = (o : Denoted) × (flipped held.edge.complement (function held.edge.index) ≡ Some o) × (whole_of z o ≡ held.function)

abbrev pub IsKeptCell : Shape → (ℕ → std.Option Denoted) → std.Option Held → Type 0
IsKeptCell z function None = Unit {0}
IsKeptCell z function (Some held) = IsHeldBy z function held

pub record KeepsTally (z : Shape) (function : ℕ → std.Option Denoted) (t : Tally) : Type 0 where
  pub rows : Each (λ (row : Row). IsHeldBy z function row.held) t.rows
  pub raised : Each (IsHeldBy z function) t.counts.raised
  pub owed : Each (IsHeldBy z function) t.counts.owed

pub record Kept (z : Shape) (function : ℕ → std.Option Denoted) (cells : List (std.Option Held)) (ts : List Tally) : Type 0 where
  pub each : (id : ℕ) (t : Tally) → get_elem? ts id ≡ some t → KeepsTally z function t
  -- the projections stand in the slots that are told by their number
  pub fixed : (u : ℕ) → u < z.variables → function (5 + u) ≡ Some (BddFunction (projection u))
  pub cells_kept : Each (IsKeptCell z function) cells

-- The board is at home where its turn word is 0; who has it in hand knows it.
pub record Board {S : Type 0} (board : S → List (std.Option Cell)) (turn : ℕ) (home : Option (Option (std.Option S))) (ds : List Draws) (t : Table) (cells : List (std.Option Held)) : Type 0 where
  pub are : t.cells ≡ cell_in cells
  pub home_is : turn ≡ 0 → (x : S) × (home ≡ some (some (Some x))) × (board x ≡ shown cells)
  pub held : (id : ℕ) (d : Draws) → get_elem? ds id ≡ some d → d.holds ≡ true → d.cells ≡ cells
