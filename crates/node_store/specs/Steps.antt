-- What the steps of an operator say of a task, and how the frames of a stack hang together.
use Rattle.std.specs.Prelude.{◌≡◌, ℕ, zero, suc, ◌+◌, ◌-◌, ◌*◌, ◌<◌, ◌≤◌, List, [], ◌∷◌, length}
use Rattle.node_store.specs.States.{State}
use Rattle.edge_bits.specs.declared.edges.Edge.{Edge}
use Rattle.node_store.specs.declared.operator.Task.{Task}
use Rattle.node_store.specs.declared.operator.Wait.{Wait}
use Rattle.node_store.specs.declared.operator.Wait.TheVariants.{Only, First, Second, Third, Fourth}
use Rattle.node_store.specs.declared.operator.Frame.{Frame}
use Rattle.node_store.specs.declared.operator.Next.{Next}
use Rattle.node_store.specs.declared.operator.Next.TheVariants.{Done, Call}
use Rattle.node_store.specs.declared.operator.Turn.{Turn}
use Rattle.node_store.specs.declared.operator.Turn.TheVariants as turn
use Rattle.node_store.specs.declared.evaluate.Step.{Step}
use Rattle.node_store.specs.declared.evaluate.Step.TheVariants.{Ask, Answer}

-- how many further tasks a frame may ask for
abbrev pub left : Wait → ℕ
left Only = 0
left (First t) = 3
left (Second a) = 2
left (Third a b) = 1
left (Fourth a b c) = 0

-- a frame waits for a task below the one that it was made for
pub record Asks (Due : State → Task → Type 0) (Waits : State → Task → Frame → Task → Type 0) (Depth : State → Task → ℕ)
    (w : State) (root : Task) (frame : Frame) (child : Task) : Type 0 where
  pub waits : Waits w root frame child
  pub due : Due w child
  pub less : Depth w child < Depth w root

-- a step towards an answer of the task
abbrev pub NextFor : (State → Task → Type 0) → (State → Task → Edge → Type 0) → (State → Task → Frame → Task → Type 0) → (State → Task → ℕ) → State → Task → Next → Type 0
NextFor due answers waits depth w root (Done e) = answers w root e
NextFor due answers waits depth w root (Call frame child) = Asks due waits depth w root frame child

-- the step of a frame, as one of its task: the frame waits for something else
abbrev pub next_of : Frame → Turn → Next
next_of frame (turn.Done e) = Done e
next_of frame (turn.Call wait child) = Call (record frame { wait = wait }) child

-- a frame asks for fewer tasks at each step
abbrev pub FewerLeft : Frame → Next → Type 0
FewerLeft old (Done e) = Unit {0}
FewerLeft old (Call new child) = left new.wait < left old.wait

pub record Answered (Due : State → Task → Type 0) (Answers : State → Task → Edge → Type 0) (Waits : State → Task → Frame → Task → Type 0)
    (w : State) (frame : Frame) (answer : Edge) (root child : Task) : Type 0 where
  pub due : Due w root
  pub waits : Waits w root frame child
  pub answers : Answers w child answer

-- a frame has the answer that it waited for
abbrev pub HasAnswer : (State → Task → Type 0) → (State → Task → Edge → Type 0) → (State → Task → Frame → Task → Type 0) → State → Frame → Edge → Type 0
HasAnswer due answers waits w frame answer = (p : Task × Task) × Answered due answers waits w frame answer p.0 p.1

-- one link of the chain
pub record Link (Due : State → Task → Type 0) (Waits : State → Task → Frame → Task → Type 0) (Depth : State → Task → ℕ)
    (w : State) (height : ℕ) (root : Task) (frame : Frame) (child : Task) : Type 0 where
  pub due : Due w root
  pub waits : Waits w root frame child
  pub depth : Depth w root ≤ height
  pub high : 0 < height

pub record Last (Due : State → Task → Type 0) (Depth : State → Task → ℕ)
    (w : State) (height : ℕ) (root task : Task) : Type 0 where
  pub same : root ≡ task
  pub due : Due w task
  pub depth : Depth w task ≤ height

-- the frames lead from the root down to the task
abbrev pub Chain : (State → Task → Type 0) → (State → Task → Frame → Task → Type 0) → (State → Task → ℕ) → State → ℕ → Task → List Frame → Task → Type 0
Chain due waits depth w height root [] task = Last due depth w height root task
Chain due waits depth w height root (frame ∷ frames) task =
    (child : Task) × (Link due waits depth w height root frame child × Chain due waits depth w (height - 1) child frames task)

-- the steps that a task takes at most
unfoldable pub steps_of : ℕ → ℕ
steps_of zero = 1
steps_of (suc height) = 5 * steps_of height + 5

-- those that a frame may still take
abbrev pub steps_left : ℕ → Frame → ℕ
steps_left height frame = left frame.wait * (steps_of (height - 1) + 1) + 1

abbrev pub steps_of_frames : ℕ → List Frame → ℕ
steps_of_frames height [] = 0
steps_of_frames height (frame ∷ frames) = steps_left height frame + steps_of_frames (height - 1) frames

abbrev pub steps_of_step : ℕ → Step → ℕ
steps_of_step height (Ask task) = steps_of height
steps_of_step height (Answer e) = 0

-- the frames of a run lead to the task that is asked, or to one with that answer
abbrev pub Running : (State → Task → Type 0) → (State → Task → Edge → Type 0) → (State → Task → Frame → Task → Type 0) → (State → Task → ℕ) → State → ℕ → Task → List Frame → Step → Type 0
Running due answers waits depth w height root frames (Ask task) = Chain due waits depth w height root frames task
Running due answers waits depth w height root frames (Answer e) = (task : Task) × (Chain due waits depth w height root frames task × answers w task e)

-- the steps that a run may still take
abbrev pub steps_of_run : ℕ → List Frame → Step → ℕ
steps_of_run height frames step = steps_of_frames height frames + steps_of_step (height - length frames) step
