-- What an operator of two parts says of its tasks.
use Rattle.std.specs.Prelude.{ℕ, ◌<◌, Bool}
use Rattle.computed_cache.specs.declared.Key.{Key}
use Rattle.node_store.specs.Memo.{MemoHolds}
use Rattle.node_store.specs.Views.{View, Grown, IsKey}
use Rattle.node_store.specs.Edges.{flip_if}
use Rattle.edge_bits.specs.declared.edges.Edge.{Edge}
use Rattle.node_store.specs.declared.operator.Task.{Task}
use Rattle.node_store.specs.declared.operator.Wait.{Wait}
use Rattle.node_store.specs.declared.operator.Wait.TheVariants.{Only, First, Second, Third, Fourth}
use Rattle.node_store.specs.declared.operator.Frame.{Frame}
use Rattle.node_store.specs.declared.binary.Branch.{Branch}
use Rattle.node_store.specs.declared.binary.Expansion.{Expansion}
use Rattle.node_store.specs.declared.binary.Expansion.TheVariants.{Done, Split}

-- from here on, answers of one task are answers of the other, with that flip
pub record Leads (Answers : View → Task → Edge → Type 0) (Overflows : View → Task → Type 0)
    (w : View) (root : Task) (flip : Bool) (task : Task) : Type 0 where
  pub gives : (x : View) (e : Edge) → Grown w x → Answers x task e → Answers x root (flip_if flip e)
  pub over : (x : View) → Grown w x → Overflows x task → Overflows x root

-- a task splits into two that are due and lie lower
pub record Branches (Due : View → Task → Type 0) (Answers : View → Task → Edge → Type 0) (Overflows : View → Task → Type 0)
    (Splits : View → Task → ℕ → Task → Task → Type 0) (Depth : View → Task → ℕ) (w : View) (root : Task) (b : Branch) : Type 0 where
  pub due : Due w b.task
  pub leads : Leads Answers Overflows w root b.flip b.task
  pub splits : Splits w b.task b.var b.hi b.lo
  pub hi_due : Due w b.hi
  pub lo_due : Due w b.lo
  pub hi_less : Depth w b.hi < Depth w root
  pub lo_less : Depth w b.lo < Depth w root

abbrev pub Expanded : (View → Task → Type 0) → (View → Task → Edge → Type 0) → (View → Task → Type 0)
    → (View → Task → ℕ → Task → Task → Type 0) → (View → Task → ℕ) → View → Task → Expansion → Type 0
Expanded due answers overflows splits depth w root (Done e) = answers w root e
Expanded due answers overflows splits depth w root (Split b) = Branches due answers overflows splits depth w root b

-- both parts of a task have their answers
pub record BothAnswered (Due : View → Task → Type 0) (Answers : View → Task → Edge → Type 0) (Splits : View → Task → ℕ → Task → Task → Type 0)
    (w : View) (task : Task) (var : ℕ) (hi lo : Edge) (hi_task lo_task : Task) : Type 0 where
  pub due : Due w task
  pub splits : Splits w task var hi_task lo_task
  pub hi_is : Answers w hi_task hi
  pub lo_is : Answers w lo_task lo

abbrev pub CanJoin : (View → Task → Type 0) → (View → Task → Edge → Type 0) → (View → Task → ℕ → Task → Task → Type 0) → View → Task → ℕ → Edge → Edge → Type 0
CanJoin due answers splits w task var hi lo = (p : Task × Task) × BothAnswered due answers splits w task var hi lo p.0 p.1

-- what is an answer as soon as the first part has its answer
abbrev pub Settles : (View → Task → Type 0) → (View → Task → Edge → Type 0) → (View → Task → ℕ → Task → Task → Type 0) → Task → ℕ → Edge → Edge → Type 0
Settles due answers splits task var first e = (w : View) (hi lo : Task) → due w task → splits w task var hi lo → due w hi → answers w hi first → answers w task e

-- the first part is computed
pub record AtFirst (Due : View → Task → Type 0) (Splits : View → Task → ℕ → Task → Task → Type 0) (Depth : View → Task → ℕ)
    (w : View) (root : Task) (frame : Frame) (hi lo : Task) : Type 0 where
  pub splits : Splits w frame.task frame.var hi lo
  pub hi_due : Due w hi
  pub lo_due : Due w lo
  pub lo_less : Depth w lo < Depth w root

-- the second part is computed
pub record AtSecond (Due : View → Task → Type 0) (Answers : View → Task → Edge → Type 0) (Splits : View → Task → ℕ → Task → Task → Type 0)
    (w : View) (frame : Frame) (hi : Edge) (lo : Task) (hi_task : Task) : Type 0 where
  pub splits : Splits w frame.task frame.var hi_task lo
  pub hi_due : Due w hi_task
  pub hi_is : Answers w hi_task hi

abbrev pub WaitIs : (View → Task → Type 0) → (View → Task → Edge → Type 0) → (View → Task → ℕ → Task → Task → Type 0) → (View → Task → ℕ) → View → Task → Frame → Task → Wait → Type 0
WaitIs due answers splits depth w root frame child (First lo) = AtFirst due splits depth w root frame child lo
WaitIs due answers splits depth w root frame child (Second hi) = (hi_task : Task) × AtSecond due answers splits w frame hi child hi_task
WaitIs due answers splits depth w root frame child (Third a b) = ⊥
WaitIs due answers splits depth w root frame child (Fourth a b c) = ⊥
WaitIs due answers splits depth w root frame child Only = ⊥

-- a frame of such an operator
pub record Waiting (Due : View → Task → Type 0) (Answers : View → Task → Edge → Type 0) (Overflows : View → Task → Type 0)
    (Splits : View → Task → ℕ → Task → Task → Type 0) (Depth : View → Task → ℕ) (w : View) (root : Task) (frame : Frame) (child : Task) : Type 0 where
  pub due : Due w frame.task
  pub leads : Leads Answers Overflows w root frame.flip frame.task
  pub wait : WaitIs Due Answers Splits Depth w root frame child frame.wait

-- the answers of a task may be kept under the key
pub record Keeps (Due : View → Task → Type 0) (Answers : View → Task → Edge → Type 0) (task : Task) (key : Key) (w : View) : Type 0 where
  pub is_key : IsKey w key
  pub holds : (e : Edge) → Answers w task e → MemoHolds w key e

abbrev pub KeepsUnder : (View → Task → Type 0) → (View → Task → Edge → Type 0) → Task → Key → Type 0
KeepsUnder due answers task key = (w : View) → due w task → Keeps due answers task key w
