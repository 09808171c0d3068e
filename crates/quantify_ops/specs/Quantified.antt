-- Tasks of two functions whose conjunction is quantified over the variables of a product, which is the third operand.
use Rattle.std.specs.Prelude.{◌≡◌, ℕ, ◌<◌, ◌≤◌, Bool, false, ◌⊎◌, Option, Some, None}
use Rattle.edge_bits.specs.declared.edges.Edge.{Edge}
use Rattle.computed_cache.specs.declared.Key.{Key}
use Rattle.edge_bits.specs.declared.edges.Kind.TheVariants.{Bdd}
use Rattle.function_laws.specs.Cubes.{IsCube, IsExists}
use Rattle.function_laws.specs.Values.{IsFree, conjunction, constant, projection}
use Rattle.function_laws.specs.Kinds.{Denoted, BddFunction}
use Rattle.node_store.specs.Views.{View, AreTwo, Is, IsKey, IsVariable, NotBothLeaves, Permanent, bdd_at}
use Rattle.node_store.specs.Memo.{MemoHolds}
use Rattle.node_store.specs.Splits.{Branches, Leads, Waiting}
use Rattle.node_store.specs.Three.{three_depth}
use Rattle.node_store.specs.Two.{TwoSplits}
use Rattle.node_store.specs.Work.{IsPart}
use Rattle.node_store.specs.declared.binary.Branch.{Branch}
use Rattle.node_store.specs.declared.operator.Frame.{Frame}
use Rattle.node_store.specs.declared.operator.Task.{Task}
use Rattle.node_store.specs.declared.operator.Wait.TheVariants.{Only}
use Rattle.quantify_ops.specs.declared.products.Left.{Left}
use Rattle.quantify_ops.specs.declared.products.Left.TheVariants.{Above, Below}
use Rattle.quantify_ops.specs.declared.quantification.Step.{Step}
use Rattle.quantify_ops.specs.declared.quantification.Step.TheVariants.{Skip, Split}

-- what two edges denote, in both places
abbrev pub both_at : View → Edge → Edge → ℕ → Bool
both_at w f g = conjunction (bdd_at w f) (bdd_at w g)

-- the edge denotes a product of variables
pub record HasCube (w : View) (c : Edge) : Type 0 where
  pub edge : Is Bdd w c
  pub cube : IsCube (bdd_at w c)

pub record AreQuantified (w : View) (f g c : Edge) : Type 0 where
  pub two : AreTwo Bdd w f g
  pub cube : HasCube w c

-- free of the variables above a level
abbrev pub IsFreeAbove : View → ℕ → (ℕ → Bool) → Type 0
IsFreeAbove w level f = (u : ℕ) → IsVariable Bdd w u → w.level u < level → IsFree f u

-- for functions that are free of the variables above a level, the one product gives the same as the other
abbrev pub StandsAbove : View → ℕ → (ℕ → Bool) → (ℕ → Bool) → Type 0
StandsAbove w level d c = (a h : ℕ → Bool) → IsFreeAbove w level a → IsExists d a h → IsExists c a h

-- the value of a call, also with any parts of the two functions in their places
pub record IsQuantifiedValue (f g c : Edge) (w : View) (F : Denoted) : Type 0 where
  pub a : ℕ → Bool
  pub b : ℕ → Bool
  pub h : ℕ → Bool
  pub part_f : IsPart Bdd w (bdd_at w f) a
  pub part_g : IsPart Bdd w (bdd_at w g) b
  pub exists : IsExists (bdd_at w c) (conjunction a b) h
  pub is : F ≡ BddFunction h

-- a task of the call with these operands: parts of both, and what is left of the product below a level
pub record QuantifiedDue (f g c : Edge) (w : View) (t : Task) : Type 0 where
  pub permanent : Permanent w
  pub roots : AreQuantified w f g c
  pub operands : AreQuantified w t.f t.g t.h
  pub part_f : IsPart Bdd w (bdd_at w f) (bdd_at w t.f)
  pub part_g : IsPart Bdd w (bdd_at w g) (bdd_at w t.g)
  pub level : ℕ
  pub free_f : IsFreeAbove w level (bdd_at w t.f)
  pub free_g : IsFreeAbove w level (bdd_at w t.g)
  pub left : StandsAbove w level (bdd_at w t.h) (bdd_at w c)

pub record QuantifiedAnswers (w : View) (t : Task) (e : Edge) : Type 0 where
  pub answer : Is Bdd w e
  pub exists : IsExists (bdd_at w t.h) (both_at w t.f t.g) (bdd_at w e)

-- d is what is left of the product c below variable x, which is quantified or not
abbrev pub IsLeft : ℕ → (ℕ → Bool) → (ℕ → Bool) → Type 0
IsLeft x c d = (c ≡ conjunction (projection x) d) ⊎ ((c ≡ d) × IsFree c x)

-- both functions split at a variable that is not below the product's top
pub record QuantifiedSplits (w : View) (t : Task) (x : ℕ) (hi lo : Task) : Type 0 where
  pub two : TwoSplits Bdd w t x hi lo
  pub above : IsFreeAbove w (w.level x) (bdd_at w t.h)
  pub left : HasCube w hi.h
  pub step : IsLeft x (bdd_at w t.h) (bdd_at w hi.h)
  pub same : lo.h ≡ hi.h

-- a constant that the conjunction is known to be; else not both functions are constants
abbrev pub IsKnown : View → Edge → Edge → Option Bool → Type 0
IsKnown w f g (Some b) = both_at w f g ≡ constant b
IsKnown w f g None = NotBothLeaves Bdd w f g

-- what is left of a product below its top variable
pub record IsRest (w : View) (c : Edge) (x : ℕ) (d : Edge) : Type 0 where
  pub left : HasCube w d
  pub is : bdd_at w c ≡ conjunction (projection x) (bdd_at w d)

-- the rest, if the variable is the product's top
abbrev pub RestIs : View → Edge → ℕ → Option Edge → Type 0
RestIs w c x (Some d) = IsRest w c x d
RestIs w c x None = IsFree (bdd_at w c) x

-- what is left of a product below its top variable, which stands above this one
pub record IsLeftAbove (w : View) (c : Edge) (x : ℕ) (d : Edge) : Type 0 where
  pub left : HasCube w d
  pub stands : StandsAbove w (w.level x) (bdd_at w d) (bdd_at w c)
  pub above : w.top c.index < w.level x
  pub lower : w.top c.index < w.top d.index

-- what is left of it below this variable, above which it has none
pub record IsLeftBelow (w : View) (c : Edge) (x : ℕ) (d : Edge) : Type 0 where
  pub left : HasCube w d
  pub step : IsLeft x (bdd_at w c) (bdd_at w d)
  pub above : IsFreeAbove w (w.level x) (bdd_at w c)
  pub from : w.level x ≤ w.top c.index
  pub lower : w.level x < w.top d.index

abbrev pub LeftOf : View → Edge → ℕ → Left → Type 0
LeftOf w c x (Above d) = IsLeftAbove w c x d
LeftOf w c x (Below d) = IsLeftBelow w c x d

-- the first part of a task has its answer
pub record FirstAnswered (f g c : Edge) (w : View) (t : Task) (x : ℕ) (first : Edge) (hi lo : Task) : Type 0 where
  pub due : QuantifiedDue f g c w t
  pub splits : QuantifiedSplits w t x hi lo
  pub first_is : QuantifiedAnswers w hi first

abbrev pub QuantifiedFirst : Edge → Edge → Edge → View → Task → ℕ → Edge → Type 0
QuantifiedFirst f g c w t x first = (p : Task × Task) × FirstAnswered f g c w t x first p.0 p.1

-- the answers of a task are what may be kept under the key
pub record IsKeyOf (w : View) (t : Task) (key : Key) : Type 0 where
  pub is_key : IsKey w key
  pub keeps : (e : Edge) → QuantifiedAnswers w t e → MemoHolds w key e
  pub hit : (e : Edge) → MemoHolds w key e → QuantifiedAnswers w t e

-- a frame that waits for the answer of another task with the same answers
pub record SkipWaits (w : View) (root : Task) (frame : Frame) (child : Task) : Type 0 where
  pub only : frame.wait ≡ Only
  pub own : frame.task ≡ root
  pub passes : Leads QuantifiedAnswers (λ w t. ⊥) w root false child

-- a frame that waits for an answer of one of its task's parts
pub record PartWaits (f g c : Edge) (w : View) (root : Task) (frame : Frame) (child : Task) : Type 0 where
  pub plain : frame.flip ≡ false
  pub waiting : Waiting (QuantifiedDue f g c) QuantifiedAnswers (λ w t. ⊥) QuantifiedSplits (three_depth Bdd) w root frame child

abbrev pub QuantifiedWaits : Edge → Edge → Edge → View → Task → Frame → Task → Type 0
QuantifiedWaits f g c w root frame child = SkipWaits w root frame child ⊎ PartWaits f g c w root frame child

-- the task's parts
pub record IsSplit (f g c : Edge) (w : View) (t : Task) (b : Branch) : Type 0 where
  pub branches : Branches (QuantifiedDue f g c) QuantifiedAnswers (λ w t. ⊥) QuantifiedSplits (three_depth Bdd) w t b
  pub plain : b.flip ≡ false

-- another task with the same answers
pub record IsSkip (f g c : Edge) (w : View) (t child : Task) : Type 0 where
  pub passes : Leads QuantifiedAnswers (λ w t. ⊥) w t false child
  pub due : QuantifiedDue f g c w child
  pub less : three_depth Bdd w child < three_depth Bdd w t

abbrev pub IsStep : Edge → Edge → Edge → View → Task → Step → Type 0
IsStep f g c w t (Skip child) = IsSkip f g c w t child
IsStep f g c w t (Split b) = IsSplit f g c w t b
