-- Tasks of a condition and two functions of a kind: if-then-else.
use Rattle.std.specs.Prelude.{◌≡◌, ℕ, ◌-◌, ◌<◌, ◌≤◌, Bool, true, false, min, ◌⊎◌, Option, Some, None}
use Rattle.edge_bits.specs.Permanent.{true_slot}
use Rattle.edge_bits.specs.declared.edges.Edge.{Edge}
use Rattle.edge_bits.specs.declared.edges.Kind.{Kind}
use Rattle.edge_bits.specs.declared.edges.Kind.TheVariants.{Bdd, Add, Zdd}
use Rattle.function_laws.specs.Values.{if_then_else, negation}
use Rattle.function_laws.specs.Kinds.{Denoted, ValueOf, function_of}
use Rattle.node_store.specs.Views.{View, Denotes, Is, Permanent, IsVariable, values_at, levels, Splits}
use Rattle.node_store.specs.Work.{IsPart}
use Rattle.node_store.specs.declared.binary.Branch.{Branch}
use Rattle.node_store.specs.declared.conditional.Reduced.{Reduced}
use Rattle.node_store.specs.declared.conditional.Reduced.TheVariants.{Answer, Normal}
use Rattle.node_store.specs.declared.operator.Task.{Task}
use Rattle.node_store.specs.declared.parts.Top.{Top}

-- the kinds whose functions depend on variables
abbrev pub IsOnVariables : Kind → Type 0
IsOnVariables Bdd = Unit {0}
IsOnVariables Add = Unit {0}
IsOnVariables Zdd = ⊥

-- the second where the first holds, else the third
abbrev pub ite_at : (k : Kind) → View → Edge → Edge → Edge → ℕ → ValueOf k
ite_at k w f g h = if_then_else (values_at Bdd w f) (values_at k w g) (values_at k w h)

pub record AreThree (k : Kind) (w : View) (f g h : Edge) : Type 0 where
  pub condition : Is Bdd w f
  pub first : Is k w g
  pub second : Is k w h

abbrev pub ThreeAnswers : Kind → View → Task → Edge → Type 0
ThreeAnswers k w t e = Denotes k w e (ite_at k w t.f t.g t.h)

pub record ThreeSplits (k : Kind) (w : View) (t : Task) (v : ℕ) (hi lo : Task) : Type 0 where
  pub in_range : IsVariable k w v
  pub f : Splits Bdd w v (values_at Bdd w t.f) hi.f lo.f
  pub g : Splits k w v (values_at k w t.g) hi.g lo.g
  pub h : Splits k w v (values_at k w t.h) hi.h lo.h

-- the least top of the three
abbrev pub least_top : View → Task → ℕ
least_top w t = min (w.top t.f.index) (min (w.top t.g.index) (w.top t.h.index))

abbrev pub three_depth : Kind → View → Task → ℕ
three_depth k w t = levels k w - least_top w t

-- the work of a call is its value
abbrev pub value_of_three : Kind → Edge → Edge → Edge → View → Denoted → Type 0
value_of_three k f g h w F = F ≡ function_of k (ite_at k w f g h)

-- a BDD's complement; the others have none
abbrev pub complement_of : (k : Kind) → (ℕ → ValueOf k) → ℕ → ValueOf k
complement_of Bdd f = negation f
complement_of Add f = f
complement_of Zdd p = p

-- a part of the function, or of its complement
abbrev pub IsPartOrComplement : (k : Kind) → View → (ℕ → ValueOf k) → (ℕ → ValueOf k) → Type 0
IsPartOrComplement k w f g = IsPart k w f g ⊎ IsPart k w (complement_of k f) g

-- a task of the call with these operands
pub record ThreeDue (k : Kind) (f g h : Edge) (w : View) (t : Task) : Type 0 where
  pub permanent : Permanent w
  pub roots : AreThree k w f g h
  pub three : AreThree k w t.f t.g t.h
  pub part : IsPartOrComplement k w (ite_at k w f g h) (ite_at k w t.f t.g t.h)

-- the second is the first, or its complement where that is said
abbrev pub IsFlipped : (k : Kind) → Bool → (ℕ → ValueOf k) → (ℕ → ValueOf k) → Type 0
IsFlipped k false f g = g ≡ f
IsFlipped Bdd true f g = g ≡ negation f
IsFlipped Add true f g = ⊥
IsFlipped Zdd true f g = ⊥

-- a task whose answer, flipped where that is said, is that of these operands, and whose condition is no constant
pub record IsNormal (k : Kind) (w : View) (f g h : Edge) (t : Task) (flip : Bool) : Type 0 where
  pub three : AreThree k w t.f t.g t.h
  pub same : IsFlipped k flip (ite_at k w f g h) (ite_at k w t.f t.g t.h)
  pub inner : t.f.index ≡ true_slot → ⊥
  pub depth : levels k w - least_top w t ≤ levels k w - min (w.top f.index) (min (w.top g.index) (w.top h.index))

-- the answer, or a task in normal form
abbrev pub IsReduced : Kind → View → Edge → Edge → Edge → Reduced → Type 0
IsReduced k w f g h (Answer e) = Denotes k w e (ite_at k w f g h)
IsReduced k w f g h (Normal t flip) = IsNormal k w f g h t flip

-- a top variable at this level, or none where the level is the number of levels
pub record IsTopAt (k : Kind) (w : View) (top : ℕ) (t : Top) : Type 0 where
  pub in_range : IsVariable k w t.var
  pub level : t.level ≡ w.level t.var
  pub here : top ≡ w.level t.var
  pub within : w.level t.var < levels k w

abbrev pub HasTop : Kind → View → ℕ → Option Top → Type 0
HasTop k w top (Some t) = IsTopAt k w top t
HasTop k w top None = top ≡ levels k w

-- what is asked for the parts of a task
pub record CanSplit (k : Kind) (w : View) (t : Task) : Type 0 where
  pub on_variables : IsOnVariables k
  pub three : AreThree k w t.f t.g t.h
  pub inner : t.f.index ≡ true_slot → ⊥

-- the parts of the task at its top variable
pub record IsBranch (k : Kind) (w : View) (t : Task) (flipped : Bool) (b : Branch) : Type 0 where
  pub task : b.task ≡ t
  pub flip : b.flip ≡ flipped
  pub splits : ThreeSplits k w b.task b.var b.hi b.lo
  pub hi_less : three_depth k w b.hi < three_depth k w b.task
  pub lo_less : three_depth k w b.lo < three_depth k w b.task
