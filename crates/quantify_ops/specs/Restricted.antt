-- Tasks of a function and a condition under which it is restricted (Coudert and Madre 1990).
use Rattle.std.specs.Prelude.{◌≡◌, ◌≢◌, ℕ, ◌^◌, ◌<◌, ◌≤◌, Bool, false, List, ◌⊎◌, Option, Some, None}
use Rattle.computed_cache.specs.declared.Key.{Key}
use Rattle.edge_bits.specs.declared.edges.Edge.{Edge}
use Rattle.edge_bits.specs.declared.edges.Kind.TheVariants.{Bdd}
use Rattle.function_laws.specs.Restricting.{Restricts}
use Rattle.function_laws.specs.Restrictions.{IsNowhere, IsRestriction}
use Rattle.function_laws.specs.Values.{IsFree, cofactor, exists_all, exists_one, negation}
use Rattle.function_laws.specs.Kinds.{Denoted, BddFunction}
use Rattle.node_store.specs.declared.numbers.TheConstants as numbers
use Rattle.node_store.specs.Splits.{Leads, Waiting}
use Rattle.node_store.specs.Two.{TwoSplits, two_depth}
use Rattle.node_store.specs.Views.{View, AreTwo, Is, IsInner, IsVariable, Permanent, bdd_at}
use Rattle.node_store.specs.Work.{IsPart}
use Rattle.node_store.specs.declared.operator.Frame.{Frame}
use Rattle.node_store.specs.declared.operator.Task.{Task}
use Rattle.node_store.specs.declared.operator.Wait.TheVariants.{Only}
use Rattle.quantify_ops.specs.Quantified.{IsFreeAbove}

-- the edge denotes one of the functions that restrict may answer for what the two edges denoted
pub record Restricted (v w : View) (f c e : Edge) : Type 0 where
  pub answer : Is Bdd w e
  -- over the assignments of the store's variables
  pub restricts : Restricts (2 ^ v.vars) (bdd_at v f) (bdd_at v c) (bdd_at w e)
  -- over all assignments
  pub restriction : IsRestriction (bdd_at v f) (bdd_at v c) (bdd_at w e)

-- neither function depends on a variable above this one
abbrev pub AreFreeAbove : View → ℕ → (ℕ → Bool) → (ℕ → Bool) → Type 0
AreFreeAbove w v a b = (u : ℕ) → IsVariable Bdd w u → w.level u < w.level v → IsFree a u × IsFree b u

-- parts of a function, up to complement, and of a condition: both are cut by the same variables with the same bits, from the top,
-- and a variable on which the function's part does not depend is quantified in the condition's
pub data IsPartOfBoth (w : View) (f c : ℕ → Bool) : (ℕ → Bool) → (ℕ → Bool) → Type 0 where
  both_whole : IsPartOfBoth w f c f c
  both_opposite : (a b : ℕ → Bool) → IsPartOfBoth w f c a b → IsPartOfBoth w f c (negation a) b
  both_cut : (a b : ℕ → Bool) (v : ℕ) (bit : Bool) → IsVariable Bdd w v → AreFreeAbove w v a b → IsPartOfBoth w f c a b → IsPartOfBoth w f c (cofactor a v bit) (cofactor b v bit)
  both_lifted : (a b : ℕ → Bool) (v : ℕ) → IsVariable Bdd w v → AreFreeAbove w v a b → IsFree a v → IsPartOfBoth w f c a b → IsPartOfBoth w f c a (exists_one b v)

-- one of the functions that restrict may answer for such parts of the function and of the condition
pub record IsPartRestricted (f c : Edge) (w : View) (F : Denoted) : Type 0 where
  pub a : ℕ → Bool
  pub b : ℕ → Bool
  pub r : ℕ → Bool
  pub parts : IsPartOfBoth w (bdd_at w f) (bdd_at w c) a b
  pub restriction : IsRestriction a b r
  pub is : F ≡ BddFunction r

-- such a function, or the condition with some variables quantified
abbrev pub work_of_restrict : Edge → Edge → View → Denoted → Type 0
work_of_restrict f c w F = IsPartRestricted f c w F ⊎ ((vars : List ℕ) × (F ≡ BddFunction (exists_all (bdd_at w c) vars)))

-- a condition of the call with this condition: a part of it with some variables quantified, which holds somewhere
pub record IsCondition (c : Edge) (w : View) (d : Edge) : Type 0 where
  pub edge : Is Bdd w d
  pub somewhere : IsNowhere (bdd_at w d) → ⊥
  pub vars : List ℕ
  pub part : IsPart Bdd w (exists_all (bdd_at w c) vars) (bdd_at w d)

-- a task of the call with these operands
pub record RestrictDue (f c : Edge) (w : View) (t : Task) : Type 0 where
  pub permanent : Permanent w
  pub roots : AreTwo Bdd w f c
  pub edge : Is Bdd w t.f
  pub condition : IsCondition c w t.g
  pub parts : IsPartOfBoth w (bdd_at w f) (bdd_at w c) (bdd_at w t.f) (bdd_at w t.g)

pub record RestrictAnswers (w : View) (t : Task) (e : Edge) : Type 0 where
  pub answer : Is Bdd w e
  pub restriction : IsRestriction (bdd_at w t.f) (bdd_at w t.g) (bdd_at w e)

-- function and condition split at a variable on which the function depends
pub record RestrictParts (w : View) (t : Task) (x : ℕ) (hi lo : Task) : Type 0 where
  pub two : TwoSplits Bdd w t x hi lo
  pub apart : bdd_at w hi.f ≢ bdd_at w lo.f

-- and the conditions of both branches hold somewhere
pub record RestrictSplits (w : View) (t : Task) (x : ℕ) (hi lo : Task) : Type 0 where
  pub parts : RestrictParts w t x hi lo
  pub hi_somewhere : IsNowhere (bdd_at w hi.g) → ⊥
  pub lo_somewhere : IsNowhere (bdd_at w lo.g) → ⊥

-- the answers of one other task are answers of the frame's: of one branch, since the condition of the other holds nowhere, or of the same
-- function under the condition with its top variable quantified
pub record OnlyWaits (f c : Edge) (w : View) (root : Task) (frame : Frame) (child : Task) : Type 0 where
  pub only : frame.wait ≡ Only
  pub due : RestrictDue f c w frame.task
  pub leads : Leads RestrictAnswers (λ w t. ⊥) w root frame.flip frame.task
  pub passes : Leads RestrictAnswers (λ w t. ⊥) w frame.task false child

-- a frame that waits for the answer of the one branch, or of one of both
abbrev pub RestrictWaits : Edge → Edge → View → Task → Frame → Task → Type 0
RestrictWaits f c w root frame child = OnlyWaits f c w root frame child ⊎ Waiting (RestrictDue f c) RestrictAnswers (λ w t. ⊥) RestrictSplits (two_depth Bdd) w root frame child

-- a frame asks for a task below the one that it was made for
pub record RestrictAsks (f c : Edge) (w : View) (root : Task) (frame : Frame) (child : Task) : Type 0 where
  pub waits : RestrictWaits f c w root frame child
  pub due : RestrictDue f c w child
  pub less : two_depth Bdd w child < two_depth Bdd w root

-- for functions that are free of the variables above a level, what restrict may answer under the one condition it may answer under the other
abbrev pub ServesAbove : View → ℕ → (ℕ → Bool) → (ℕ → Bool) → Type 0
ServesAbove w level d c = (a r : ℕ → Bool) → IsFreeAbove w level a → IsRestriction a d r → IsRestriction a c r

-- where a function that is free of the variables above a level and the one condition are parts, it and the other are
abbrev pub PartsAbove : View → ℕ → (ℕ → Bool) → (ℕ → Bool) → (ℕ → Bool) → Type 0
PartsAbove w level root d c = (f a : ℕ → Bool) → IsFreeAbove w level a → IsPartOfBoth w f root a c → IsPartOfBoth w f root a d

-- the condition with its top variable quantified, which stands above a level
pub record IsLifted (c : Edge) (w : View) (condition lifted : Edge) (level : ℕ) : Type 0 where
  pub now : IsCondition c w lifted
  pub above : w.top condition.index < level
  pub lower : w.top condition.index < w.top lifted.index
  pub serves : ServesAbove w level (bdd_at w lifted) (bdd_at w condition)
  pub parts : PartsAbove w level (bdd_at w c) (bdd_at w lifted) (bdd_at w condition)

-- the lifted condition, or none where the condition's top is not above the level
abbrev pub LiftIs : Edge → View → Edge → ℕ → Option Edge → Type 0
LiftIs c w condition level (Some lifted) = IsLifted c w condition lifted level
LiftIs c w condition level None = level ≤ w.top condition.index

-- the answer in a terminal case
abbrev pub IsKnownRestriction : View → Task → Option Edge → Type 0
IsKnownRestriction w t (Some e) = RestrictAnswers w t e
IsKnownRestriction w t None = Unit {0}

-- what is asked of a task that is split: its function opens to these children, and its condition's top is not above
pub record CanBranch (f c : Edge) (w : View) (t : Task) (x : ℕ) (hi lo : Edge) : Type 0 where
  pub due : RestrictDue f c w t
  pub inner : IsInner Bdd w t.f (bdd_at w t.f) x hi lo
  pub above : w.level x ≤ w.top t.g.index

-- answers of a task lead to answers of another one of the same depth
pub record LeadsLevel (w : View) (root : Task) (flip : Bool) (t : Task) : Type 0 where
  pub operands : AreTwo Bdd w root.f root.g
  pub leads : Leads RestrictAnswers (λ w t. ⊥) w root flip t
  pub depth : two_depth Bdd w t ≡ two_depth Bdd w root

-- the key of a regular function and a condition
abbrev pub restrict_key : Edge → Edge → Key
restrict_key f c = record { op = numbers.RESTRICT; f = f; g = c; h = f }
