-- Tasks of an irredundant cover between two bounds (Minato 1993), by Morreale's calls, and what they may store.
use Rattle.std.specs.Prelude.{◌≡◌, ℕ, ◌*◌, ◌≤◌, ◌<◌, Bool, true, false, ◌||◌, if◌then◌else◌, List, [], ◌∷◌, ◌++◌, length, suc, Option, Some, None, Result, IfOk, IsErrOf}
use Rattle.computed_cache.specs.declared.Key.{Key}
use Rattle.edge_bits.specs.declared.edges.Edge.{Edge}
use Rattle.edge_bits.specs.declared.edges.Kind.TheVariants.{Bdd, Zdd}
use Rattle.function_laws.specs.Families.{base}
use Rattle.function_laws.specs.IrredundantCovers.{cover_value}
use Rattle.function_laws.specs.Kinds.{Denoted}
use Rattle.function_laws.specs.MorrealeCalls.{Interval, IsCall, IsWorkOfIsop, both_call, depends_at, high_call, holds_everywhere, holds_nowhere, interval, less, low_call, morreale}
use Rattle.function_laws.specs.Values.{IsFree}
use Rattle.function_laws.proofs.DistinctLemmas.{In}
use Rattle.node_store.specs.Memo.{by_level}
use Rattle.node_store.specs.Views.{View, AreTwo, Denotes, Is, IsTop, IsVariable, Permanent, Rose, Splits, bdd_at}
use Rattle.node_store.specs.Work.{IsWork, Moves}
use Rattle.node_store.specs.declared.grow.Stop.{Stop}
use Rattle.node_store.specs.declared.grow.Stop.TheVariants.{Memory, Full}
use Rattle.node_store.specs.declared.numbers.TheConstants as numbers
use Rattle.node_store.specs.declared.operator.Frame.{Frame}
use Rattle.node_store.specs.declared.operator.Task.{Task}
use Rattle.node_store.specs.declared.operator.Wait.{Wait}
use Rattle.node_store.specs.declared.operator.Wait.TheVariants.{Only, First, Second, Third, Fourth}
use Rattle.cover_isop.specs.Covers.{AreVariables}
use Rattle.cover_isop.specs.declared.calls.Sides.{Sides}

-- the order of the calls
abbrev pub order_in : View → List ℕ
order_in w = by_level w.vars w.level

-- each variable has a level of the order
abbrev pub HasLevels : View → Type 0
HasLevels w = (v : ℕ) → v < w.vars → w.level v < w.vars

-- what two edges bound
abbrev pub bounds_at : View → Edge → Edge → Interval
bounds_at w lower upper = interval (bdd_at w lower) (bdd_at w upper)

-- the work of a call: the functions and families of Morreale's calls
abbrev pub isop_work : Edge → Edge → View → Denoted → Type 0
isop_work lower upper w F = IsWorkOfIsop w.vars w.elements (by_level w.vars w.level) (interval (bdd_at w lower) (bdd_at w upper)) F

-- two bounds, in a store that has both literals of each variable
pub record HasBounds (w : View) (lower upper : Edge) : Type 0 where
  pub variables : AreVariables w w.vars
  pub literals : 2 * w.vars ≤ w.elements
  pub two : AreTwo Bdd w lower upper

-- One of the calls of the bounds `root`. Its bounds depend on none of the variables before what is left of the order.
pub record IsCallOf (n m : ℕ) (order : List ℕ) (root b : Interval) : Type 0 where
  pub before : List ℕ
  pub rest : List ℕ
  pub parts : order ≡ before ++ rest
  pub lacks : (v : ℕ) → In v before → IsFree b.lower v × IsFree b.upper v
  pub call : IsCall n m order root rest b

abbrev pub IsCallIn : View → Interval → Interval → Type 0
IsCallIn w root b = IsCallOf w.vars w.elements (order_in w) root b

-- the cover between two bounds, and its function
abbrev pub cover_in : View → Interval → ℕ → Bool
cover_in w b = morreale w.vars w.elements (order_in w) b

abbrev pub function_in : View → Interval → ℕ → Bool
function_in w b = cover_value w.vars w.elements (cover_in w b)

-- a task of the call with these bounds: one of its calls
pub record MorrealeDue (lower upper : Edge) (w : View) (t : Task) : Type 0 where
  pub permanent : Permanent w
  pub root : HasBounds w lower upper
  pub bounds : HasBounds w t.f t.g
  pub call : IsCallIn w (bounds_at w lower upper) (bounds_at w t.f t.g)

-- the edge denotes a cover (true), or its function (false)
abbrev pub Shows : Bool → View → (ℕ → Bool) → Edge → Type 0
Shows true w p e = Denotes Zdd w e p
Shows false w p e = Denotes Bdd w e (cover_value w.vars w.elements p)

abbrev pub MorrealeAnswers : Bool → View → Task → Edge → Type 0
MorrealeAnswers family w t e = Shows family w (cover_in w (bounds_at w t.f t.g)) e

-- how many variables of the order are left, from the first on which a bound depends
abbrev pub left_of : ℕ → List ℕ → Interval → ℕ
left_of n [] b = 0
left_of n (x ∷ rest) b = if depends_at n b.lower x || depends_at n b.upper x then suc (length rest) else left_of n rest b

abbrev pub morreale_depth : View → Task → ℕ
morreale_depth w t = left_of w.vars (order_in w) (bounds_at w t.f t.g)

-- the frames that a step of a call asks for: of a nested run for a function with one within, where 2 n are at most m, or of one on families
abbrev pub morreale_extra : Bool → View → ℕ
morreale_extra true w = w.elements
morreale_extra false w = w.vars

-- A task makes further calls at its topmost variable: its bounds are neither nothing nor everything, and one depends on it.
pub record IsSplit (w : View) (t : Task) (x : ℕ) : Type 0 where
  pub some : holds_nowhere w.vars (bdd_at w t.f) ≡ false
  pub not_all : holds_everywhere w.vars (bdd_at w t.g) ≡ false
  pub top : IsTop Bdd w t.f t.g x
  pub alone : (u : ℕ) → IsVariable Bdd w u → w.level u ≡ w.level x → u ≡ x
  pub depends : IsFree (bdd_at w t.f) x → IsFree (bdd_at w t.g) x → ⊥
  pub above : (u : ℕ) → IsVariable Bdd w u → w.level u < w.level x → IsFree (bdd_at w t.f) u × IsFree (bdd_at w t.g) u

-- the topmost variable of a task, or none where both bounds are constants, not nothing and everything
abbrev pub IsFirst : View → Task → Option ℕ → Type 0
IsFirst w t (Some x) = IsSplit w t x
IsFirst w t None = cover_in w (bounds_at w t.f t.g) ≡ base

-- both parts of both bounds
pub record AreSides (w : View) (t : Task) (x : ℕ) (s : Sides) : Type 0 where
  pub lower : Splits Bdd w x (bdd_at w t.f) s.hi.f s.lo.f
  pub upper : Splits Bdd w x (bdd_at w t.g) s.hi.g s.lo.g

-- the bounds of a half's call: without what the other half's upper bound leaves uncovered
abbrev pub half_at : View → Edge → Edge → Edge → Interval
half_at w lower upper other = interval (less (bdd_at w lower) (bdd_at w other)) (bdd_at w upper)

-- the three calls of a task
abbrev pub low_at : View → Task → ℕ → Interval
low_at w t x = low_call (bounds_at w t.f t.g) x

abbrev pub high_at : View → Task → ℕ → Interval
high_at w t x = high_call (bounds_at w t.f t.g) x

abbrev pub both_at : View → Task → ℕ → Interval
both_at w t x = both_call (bounds_at w t.f t.g) x (function_in w (low_at w t x)) (function_in w (high_at w t x))

-- the task of a further call
pub record IsFurther (lower upper : Edge) (w : View) (t : Task) (b : Interval) (u : Task) : Type 0 where
  pub due : MorrealeDue lower upper w u
  pub less : morreale_depth w u < morreale_depth w t
  pub is : bounds_at w u.f u.g ≡ b

-- the answer of one call is computed, and those before it are there
abbrev pub MorrealeWaitIs : Bool → Edge → Edge → View → Task → ℕ → Task → Wait → Type 0
MorrealeWaitIs family l u w t x child (First later) = IsFurther l u w t (low_at w t x) child × IsFurther l u w t (high_at w t x) later
MorrealeWaitIs family l u w t x child (Second a) = IsFurther l u w t (high_at w t x) child × Shows family w (cover_in w (low_at w t x)) a
MorrealeWaitIs family l u w t x child (Third a b) = IsFurther l u w t (both_at w t x) child × Shows family w (cover_in w (low_at w t x)) a × Shows family w (cover_in w (high_at w t x)) b
MorrealeWaitIs family l u w t x child (Fourth a b c) = ⊥
MorrealeWaitIs family l u w t x child Only = ⊥

-- a frame that waits for the answer of one of its task's three calls
pub record MorrealeWaits (family : Bool) (lower upper : Edge) (w : View) (root : Task) (frame : Frame) (child : Task) : Type 0 where
  pub same : frame.task ≡ root
  pub splits : IsSplit w frame.task frame.var
  pub wait : MorrealeWaitIs family lower upper w frame.task frame.var child frame.wait

-- all three calls of a task have their answers
pub record AreAnswered (family : Bool) (lower upper : Edge) (w : View) (t : Task) (x : ℕ) (low high both : Edge) : Type 0 where
  pub due : MorrealeDue lower upper w t
  pub splits : IsSplit w t x
  pub low_is : Shows family w (cover_in w (low_at w t x)) low
  pub high_is : Shows family w (cover_in w (high_at w t x)) high
  pub both_is : Shows family w (cover_in w (both_at w t x)) both

-- the half of a task, whose call is one of the root's
pub record IsHalf (root_lower root_upper : Edge) (w : View) (lower upper other : Edge) : Type 0 where
  pub permanent : Permanent w
  pub root : HasBounds w root_lower root_upper
  pub two : AreTwo Bdd w lower upper
  pub other_is : Is Bdd w other
  pub call : IsCallIn w (bounds_at w root_lower root_upper) (half_at w lower upper other)

-- what a step of the call with these bounds does to the store, and what its outcome tells
pub record Does {X : Type 0} (IsAnswer : X → Type 0) (lower upper : Edge) (old new : View) (outcome : Result X Stop) : Type 0 where
  pub moved : Moves (λ w. HasBounds w lower upper) (isop_work lower upper) old new
  pub answer : IfOk outcome IsAnswer
  pub memory : IsErrOf outcome Memory → old.may_want_memory ≡ true
  pub full : IsErrOf outcome Full → Rose old new
  pub due : IsErrOf outcome Full → IsWork new (isop_work lower upper new) new.due

-- the key under which answers are kept
abbrev pub number_of : Bool → ℕ
number_of true = numbers.ISOP
number_of false = numbers.BETWEEN

abbrev pub morreale_key : Bool → Edge → Edge → Key
morreale_key family lower upper = record { op = number_of family; f = lower; g = upper; h = lower }
