-- What an operation promises of the store before it, the store after it and its outcome.
use Rattle.std.specs.Prelude.{◌≡◌, ℕ, ◌<◌, ◌≤◌, true, ◌⊎◌, Result, Ok, Err, IfOk, IsErrOf}
use Rattle.edge_bits.specs.declared.edges.Edge.{Edge}
use Rattle.edge_bits.specs.declared.edges.Kind.{Kind}
use Rattle.function_laws.specs.Kinds.{Denoted, ValueOf}
use Rattle.node_store.specs.Halt.{halt_of}
use Rattle.node_store.specs.Two.{Overflows}
use Rattle.node_store.specs.Views.{View, Denotes, Grown, Rose, levels}
use Rattle.node_store.specs.Work.{Adds, IsWork}
use Rattle.node_store.specs.declared.grow.Stop.{Stop}
use Rattle.node_store.specs.declared.operator.Halt.{Halt}
use Rattle.node_store.specs.declared.operator.Halt.TheVariants.{Memory, Full, Overflow}

-- The store only grew; the answer is right, and one that is told as out of range is so; what was stored are parts of the
-- work, up to complement, and so is what was due where no slot was free; want of memory comes where the scratch is too
-- short, or where the store may want memory.
pub record Serves (IsAnswer : Edge → Type 0) (IsOver : Type 0) (Work : Denoted → Type 0) (IsShort KeepsRoom : Type 0) (old new : View) (outcome : Result Edge Halt) : Type 0 where
  pub grown : Grown old new
  pub room : KeepsRoom
  pub answer : IfOk outcome IsAnswer
  pub overflow : IsErrOf outcome Overflow → IsOver
  pub work : Adds Work old new
  pub memory : IsErrOf outcome Memory → IsShort ⊎ (old.may_want_memory ≡ true)
  pub full : IsErrOf outcome Full → Rose old new
  pub due : IsErrOf outcome Full → IsWork new Work new.due

-- on a scratch that is handed in, which is never too short
abbrev pub RunsTo : (Edge → Type 0) → Type 0 → (Denoted → Type 0) → View → View → Result Edge Halt → Type 0
RunsTo answer over work old new outcome = Serves answer over work ⊥ (Unit {0}) old new outcome

-- in the scratch that the store lends, which is not less afterwards
abbrev pub CallsTo : Kind → (Edge → Type 0) → Type 0 → (Denoted → Type 0) → View → View → Result Edge Halt → Type 0
CallsTo k answer over work old new outcome = Serves answer over work (old.room < levels k old) (old.room ≤ new.room) old new outcome

-- the same where the answer denotes a function
abbrev pub Runs : (k : Kind) → (ℕ → ValueOf k) → (Denoted → Type 0) → View → View → Result Edge Halt → Type 0
Runs k value work old new outcome = RunsTo (λ e. Denotes k new e value) (Overflows k value) work old new outcome

abbrev pub Calls : (k : Kind) → (ℕ → ValueOf k) → (Denoted → Type 0) → View → View → Result Edge Halt → Type 0
Calls k value work old new outcome = CallsTo k (λ e. Denotes k new e value) (Overflows k value) work old new outcome

-- an outcome that is never out of range, as one that might be
abbrev pub halts : Result Edge Stop → Result Edge Halt
halts (Ok e) = Ok e
halts (Err stop) = Err (halt_of stop)
