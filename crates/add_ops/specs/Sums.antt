-- Tasks of one function of numbers that is summed over a variable.
use Rattle.std.specs.Prelude.{◌≡◌, ◌≢◌, ℕ, ◌<◌, ℤ}
use Rattle.edge_bits.specs.declared.edges.Edge.{Edge}
use Rattle.edge_bits.specs.declared.edges.Kind.TheVariants.{Add, Bdd}
use Rattle.function_laws.specs.Numbers.{plus, sum_over}
use Rattle.function_laws.specs.Kinds.{Denoted, AddFunction}
use Rattle.function_laws.specs.Values.{projection}
use Rattle.node_store.specs.Splits.{Waiting}
use Rattle.node_store.specs.Two.{Overflows}
use Rattle.node_store.specs.Views.{View, AreTwo, Denotes, Is, IsVariable, Permanent, Splits, add_at}
use Rattle.node_store.specs.Work.{IsPart}
use Rattle.node_store.specs.declared.operator.Frame.{Frame}
use Rattle.node_store.specs.declared.operator.Task.{Task}
use Rattle.add_ops.specs.Conversions.{one_depth}
use Rattle.add_ops.specs.declared.summation.Found.{Found}
use Rattle.add_ops.specs.declared.summation.Found.TheVariants.{Halves, Parts}

abbrev pub summed_at : View → Edge → ℕ → ℕ → ℤ
summed_at w f v = sum_over (add_at w f) v

-- the function and the variable are of the store
pub record HasSum (w : View) (f : Edge) (v : ℕ) : Type 0 where
  pub edge : Is Add w f
  pub in_range : IsVariable Add w v

-- the work of a call is its value
abbrev pub value_of_sum : Edge → ℕ → View → Denoted → Type 0
value_of_sum f v w F = F ≡ AddFunction (summed_at w f v)

-- a task of the call with this function and this variable, whose projection is p
pub record SumDue (f : Edge) (v : ℕ) (p : Edge) (w : View) (t : Task) : Type 0 where
  pub projection : Denotes Bdd w p (projection v)
  pub permanent : Permanent w
  pub root : HasSum w f v
  pub edge : Is Add w t.f
  pub part : IsPart Add w (summed_at w f v) (summed_at w t.f v)

abbrev pub SumAnswers : ℕ → View → Task → Edge → Type 0
SumAnswers v w t e = Denotes Add w e (summed_at w t.f v)

abbrev pub SumOverflows : ℕ → View → Task → Type 0
SumOverflows v w t = Overflows Add (summed_at w t.f v)

-- the task's function splits at another variable
pub record SumSplits (v : ℕ) (w : View) (t : Task) (x : ℕ) (hi lo : Task) : Type 0 where
  pub in_range : IsVariable Add w x
  pub apart : x ≢ v
  pub splits : Splits Add w x (add_at w t.f) hi.f lo.f

-- a frame that waits for an answer of one of its task's parts
pub record SumWaits (f : Edge) (v : ℕ) (p : Edge) (w : View) (root : Task) (frame : Frame) (child : Task) : Type 0 where
  pub task : frame.task ≡ root
  pub waiting : Waiting (SumDue f v p) (SumAnswers v) (SumOverflows v) (SumSplits v) (one_depth Add) w root frame child

-- the sum of these two is the function's sum
pub record AreHalves (w : View) (f : Edge) (v : ℕ) (hi lo : Edge) : Type 0 where
  pub two : AreTwo Add w hi lo
  pub sum : plus (add_at w hi) (add_at w lo) ≡ summed_at w f v

-- the function splits at its top variable, which stands above the one over which it is summed
pub record SplitsAbove (w : View) (f : Edge) (v x : ℕ) (hi lo : Edge) : Type 0 where
  pub in_range : IsVariable Add w x
  pub apart : x ≢ v
  pub splits : Splits Add w x (add_at w f) hi lo
  pub here : w.top f.index ≡ w.level x
  pub within : w.level x < w.vars
  pub hi_top : w.level x < w.top hi.index
  pub lo_top : w.level x < w.top lo.index

abbrev pub IsFound : View → Edge → ℕ → Found → Type 0
IsFound w f v (Halves hi lo) = AreHalves w f v hi lo
IsFound w f v (Parts x hi lo) = SplitsAbove w f v x hi lo
