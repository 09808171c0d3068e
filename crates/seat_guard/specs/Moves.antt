-- What a call moves as it draws its place: what was raised comes into a row or a cell, and what goes out of one is owed.
use Rattle.std.specs.Prelude.{◌≡◌, ◌⊎◌, ℕ, Bool, false}
use Rattle.std.specs.Prelude as std
use mathlib.Core.Option.{some}
use lib.ListN.{get_elem?}
use Rattle.function_laws.specs.declared.history.Name.{Name}
use Rattle.function_laws.specs.declared.history.Function.{Function}
use Rattle.function_laws.specs.declared.history.Call.{Call}
use Rattle.function_laws.specs.declared.history.Call.TheVariants.{DropRow, Post}
use Rattle.function_laws.specs.declared.history.Reply.{Reply}
use Rattle.function_laws.specs.declared.history.Reply.TheVariants.{Made, Chose, Fetched, Done}
use Rattle.function_laws.specs.SessionEntries.{Each}
use Rattle.function_laws.specs.SiftEntries.{AreOne}
use Rattle.seat_guard.specs.declared.view.Change.{Change}
use Rattle.seat_guard.specs.declared.view.Change.TheVariants.{Nothing, Adds, Takes, Posts}
use Rattle.seat_guard.specs.declared.view.Telling.{Telling}
use Rattle.seat_guard.specs.declared.view.Draws.{Draws}
use Rattle.seat_guard.specs.declared.view.Counts.{Counts}
use Rattle.seat_guard.specs.Finds.{carried_by}
use Rattle.seat_guard.specs.Tallies.{HasRaised, NotesNothing, noted_of}

-- no cell is changed
abbrev pub LeavesBoard : Change → Type 0
LeavesBoard (Posts i held) = ⊥
LeavesBoard _ = Unit {0}

-- The change is that of the call and its reply: a row comes whose name the reply tells, one goes that is dropped, a cell changes that is
-- posted to.
abbrev pub IsChangeOf : Change → Call → Reply → Type 0
IsChangeOf Nothing call reply = Unit {0}
IsChangeOf (Adds row) call reply = (reply ≡ Made row.name) ⊎ (((f : Function) × (reply ≡ Chose row.name f)) ⊎ ((told : Bool) × (reply ≡ Fetched row.name told)))
IsChangeOf (Takes name) call reply = call ≡ DropRow name
IsChangeOf (Posts i held) call reply = ((a : Name) × (call ≡ Post i a)) × (reply ≡ Done)

-- a function that is one with one that the seat found counted since its last entry
abbrev pub HasNoted : Counts → Function → Type 0
HasNoted c f = (k : ℕ) × (g : Function) × (get_elem? c.above k ≡ some g) × AreOne f g

-- a row that comes has the generation that was noted of its slot
abbrev pub HasGeneration : Change → Counts → Type 0
HasGeneration (Adds row) c = noted_of row.held.edge.index c.generations ≡ std.Some row.generation
HasGeneration _ c = Unit {0}

-- What the change adds was raised, and no more, and nothing is owed; a row has its slot's generation. Who noted a count at 0 posts nothing, nor
-- who has not the turn. What a sift carries was found counted.
pub record MayMove (d : Draws) (c : Counts) (x : Telling) : Type 0 where
  pub up : HasRaised x.change d.cells c
  pub aged : HasGeneration x.change c
  pub quiet : NotesNothing x.change c
  pub boardless : d.holds ≡ false → LeavesBoard x.change
  pub fits : IsChangeOf x.change x.call x.reply
  pub carries : Each (HasNoted c) (carried_by x.call)
