-- A walk over a function that marks the variables on which it depends.
use Rattle.std.specs.Prelude.{◌≡◌, ℕ, ◌<◌, ◌≤◌, Bool, true, false, ◌⊎◌, Some, None, length, slice_index_or}
use Rattle.computed_cache.specs.declared.Key.{Key}
use Rattle.edge_bits.specs.Assignments.{bit}
use Rattle.edge_bits.specs.declared.edges.Edge.{Edge}
use Rattle.edge_bits.specs.declared.edges.Kind.TheVariants.{Bdd}
use Rattle.function_laws.specs.Cubes.{Needs}
use Rattle.function_laws.specs.Values.{IsFree}
use Rattle.ite_core.specs.Cofactors.{one_depth}
use Rattle.node_store.specs.declared.numbers.TheConstants as numbers
use Rattle.node_store.specs.States.{State}
use Rattle.node_store.specs.Views.{Is, Kept, bdd_at}
use Rattle.node_store.specs.declared.answers.Answer.{Answer}
use Rattle.node_store.specs.declared.operator.Frame.{Frame}
use Rattle.node_store.specs.declared.operator.Task.{Task}
use Rattle.node_store.specs.declared.operator.Wait.{Wait}
use Rattle.node_store.specs.declared.operator.Wait.TheVariants.{Only, First, Second, Third, Fourth}
use Rattle.quantify_ops.specs.Products.{AreMarks, marked_product}

-- the key is that of the edge with no complement
abbrev pub regular_edge : Edge → Edge
regular_edge e = record { index = e.index; complement = false }

abbrev pub support_key : Edge → Key
support_key e = record { op = numbers.SUPPORT; f = regular_edge e; g = regular_edge e; h = regular_edge e }

-- a product needs each variable on which f depends
abbrev pub Covers : (c f : ℕ → Bool) → Type 0
Covers c f = (v : ℕ) → IsFree f v ⊎ Needs c v

-- a product is true where each variable on which f depends is 1: it has no other
abbrev pub HasNoOther : (c f : ℕ → Bool) → Type 0
HasNoOther c f = (k : ℕ) → ((v : ℕ) → bit k v ≡ false → IsFree f v) → c k ≡ true

-- the second product needs each variable that the first one needs
abbrev pub NeedsMore : (c d : ℕ → Bool) → Type 0
NeedsMore c d = (v : ℕ) → Needs c v → Needs d v

-- free of each variable of which f is free
abbrev pub IsFreeWith : (f a : ℕ → Bool) → Type 0
IsFreeWith f a = (v : ℕ) → IsFree f v → IsFree a v

-- a walk over f has come so far: f depends on each marked variable, and of each function in the table all variables are marked
pub record IsWalk (f : Edge) (s : State) : Type 0 where
  pub root : Is Bdd s.view f
  pub room : s.view.vars ≤ length s.marks
  pub marks : AreMarks s.view s.marks
  pub no_other : HasNoOther (marked_product s.marks) (bdd_at s.view f)
  pub knows : (j : ℕ) (a : Answer) → slice_index_or s.answers j None ≡ Some a → Is Bdd s.view a.task.f × Covers (marked_product s.marks) (bdd_at s.view a.task.f)

-- it makes nothing, and marks stay
pub record WalkMoves (f : Edge) (old new : State) : Type 0 where
  pub kept : Kept old.view new.view
  pub more : NeedsMore (marked_product old.marks) (marked_product new.marks)
  pub size : length new.marks ≡ length old.marks
  pub walk : IsWalk f old → IsWalk f new

pub record WalkDue (f : Edge) (s : State) (t : Task) : Type 0 where
  pub walk : IsWalk f s
  pub edge : Is Bdd s.view t.f
  pub part : IsFreeWith (bdd_at s.view f) (bdd_at s.view t.f)

-- all variables of the task's function are marked
abbrev pub WalkAnswers : State → Task → Edge → Type 0
WalkAnswers s t e = Covers (marked_product s.marks) (bdd_at s.view t.f)

-- once all variables of both parts are marked, those of the task's function are
pub record WaitsForFirst (f : Edge) (s : State) (root child later : Task) : Type 0 where
  pub child_is : Is Bdd s.view child.f
  pub later_due : WalkDue f s later
  pub less : one_depth s.view later < one_depth s.view root
  pub covers : (c : ℕ → Bool) → NeedsMore (marked_product s.marks) c → Covers c (bdd_at s.view child.f) → Covers c (bdd_at s.view later.f) → Covers c (bdd_at s.view root.f)

-- once all variables of the second part are marked, those of the task's function are
pub record WaitsForSecond (s : State) (root child : Task) : Type 0 where
  pub child_is : Is Bdd s.view child.f
  pub covers : (c : ℕ → Bool) → NeedsMore (marked_product s.marks) c → Covers c (bdd_at s.view child.f) → Covers c (bdd_at s.view root.f)

abbrev pub WalkStep : Edge → State → Task → Task → Wait → Type 0
WalkStep f s root child Only = ⊥
WalkStep f s root child (First later) = WaitsForFirst f s root child later
WalkStep f s root child (Second a) = WaitsForSecond s root child
WalkStep f s root child (Third a b) = ⊥
WalkStep f s root child (Fourth a b c) = ⊥

pub record WalkWaits (f : Edge) (s : State) (root : Task) (frame : Frame) (child : Task) : Type 0 where
  pub own : frame.task ≡ root
  pub step : WalkStep f s root child frame.wait
