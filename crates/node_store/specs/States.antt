-- What an operator finds when it takes a step: the store, and the answers and marks of its own call.
use Rattle.std.specs.Prelude.{ℕ, List, Option}
use Rattle.node_store.specs.Views.{View}
use Rattle.node_store.specs.Stacks.{Scratch}
use Rattle.node_store.specs.declared.answers.Answer.{Answer}

pub record State : Type 0 where
  pub view : View
  pub answers : List (Option Answer)
  pub marks : List (Option ℕ)

abbrev pub state_of : View → Scratch → State
state_of view stack = record { view = view; answers = stack.answers; marks = stack.marks }
