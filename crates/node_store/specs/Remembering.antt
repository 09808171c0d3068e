-- The table of a call's own answers.
use Rattle.std.specs.Prelude.{◌≡◌, ℕ, ◌⊎◌, List, Option, Some, None, slice_index_or}
use Rattle.edge_bits.specs.declared.edges.Edge.{Edge}
use Rattle.function_laws.specs.Kinds.{Denoted}
use Rattle.node_store.specs.Views.{View}
use Rattle.node_store.specs.States.{State}
use Rattle.node_store.specs.Work.{Moves}
use Rattle.node_store.specs.declared.operator.Task.{Task}
use Rattle.node_store.specs.declared.answers.Answer.{Answer}

-- the answer stands in the table
abbrev pub IsRecalled : List (Option Answer) → Task → Edge → Type 0
IsRecalled items task e = (j : ℕ) × (slice_index_or items j None ≡ Some (record { task = task; edge = e }))

-- the answer stands somewhere in the table
abbrev pub IsAmong : List (Option Answer) → Answer → Type 0
IsAmong items a = (j : ℕ) × (slice_index_or items j None ≡ Some a)

-- the answers of the second table are some of the first
abbrev pub IsOf : List (Option Answer) → List (Option Answer) → Type 0
IsOf old new = (j : ℕ) (a : Answer) → slice_index_or new j None ≡ Some a → IsAmong old a

-- the answers of the second table are some of the first, and that of a task
abbrev pub Remembers : List (Option Answer) → List (Option Answer) → Task → Edge → Type 0
Remembers old new task e = (j : ℕ) (a : Answer) → slice_index_or new j None ≡ Some a → IsAmong old a ⊎ (a ≡ record { task = task; edge = e })

-- what the table holds are answers of tasks of this call
abbrev pub Knows : (View → Task → Type 0) → (View → Task → Edge → Type 0) → View → List (Option Answer) → Type 0
Knows due answers w items = (j : ℕ) (a : Answer) → slice_index_or items j None ≡ Some a → due w a.task × answers w a.task a.edge

-- no answer stands in the table
abbrev pub IsBlank : List (Option Answer) → Type 0
IsBlank items = (j : ℕ) → slice_index_or items j None ≡ None

-- what an operator with such a table does to a state
pub record RememberingMoves (Roots : View → Type 0) (Work : View → Denoted → Type 0) (Due : View → Task → Type 0) (Answers : View → Task → Edge → Type 0) (old new : State) : Type 0 where
  pub moves : Moves Roots Work old.view new.view
  pub known : Knows Due Answers old.view old.answers → Knows Due Answers new.view new.answers
  pub marks : new.marks ≡ old.marks
