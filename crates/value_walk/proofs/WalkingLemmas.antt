-- A walk down a diagram that branches on variables.
use Rattle.std.proofs.Common.{◌≡◌, ℕ, ◌<◌, Bool, true, false, cond, refl, sym, ap, ◌∙◌, subst, ℤ}
use mir.Val.{bool_byte}
use Rattle.edge_bits.specs.declared.edges.Edge.{Edge}
use Rattle.edge_bits.specs.declared.edges.Kind.{Kind}
use Rattle.edge_bits.specs.declared.edges.Kind.TheVariants.{Bdd, Add, Zdd}
use Rattle.edge_bits.specs.Assignments.{bit}
use Rattle.edge_bits.specs.Words.{digit}
use Rattle.function_laws.specs.Kinds.{ValueOf}
use Rattle.node_store.specs.Views.{View, Is, IsInner, IsLeaf, IsLeafOf, IsVariable, levels, logic_one, logic_zero, node_values, number, values_at}
use Rattle.node_store.specs.Listed.{number_of}
use Rattle.value_walk.specs.Walking.{IsOnVariables}

-- the arc that a bit chooses has the value of the node
choice-taken : (k : Kind) (b : View) (hi lo : Edge) (v x : ℕ) → IsOnVariables k → bit x v ≡ true → node_values k b v hi lo x ≡ values_at k b hi x
choice-taken Bdd b hi lo v x on is = ap (λ t. cond t (values_at Bdd b hi x) (values_at Bdd b lo x)) is
choice-taken Add b hi lo v x on is = ap (λ t. cond t (values_at Add b hi x) (values_at Add b lo x)) is
choice-taken Zdd b hi lo v x on is = absurd on

choice-left : (k : Kind) (b : View) (hi lo : Edge) (v x : ℕ) → IsOnVariables k → bit x v ≡ false → node_values k b v hi lo x ≡ values_at k b lo x
choice-left Bdd b hi lo v x on is = ap (λ t. cond t (values_at Bdd b hi x) (values_at Bdd b lo x)) is
choice-left Add b hi lo v x on is = ap (λ t. cond t (values_at Add b hi x) (values_at Add b lo x)) is
choice-left Zdd b hi lo v x on is = absurd on

pub walk-inner : (k : Kind) (b : View) (e hi lo : Edge) (f : ℕ → ValueOf k) (v x : ℕ) (c : Bool) (next : Edge) → IsOnVariables k → IsInner k b e f v hi lo → bit x v ≡ c
    → next ≡ cond c hi lo → Is k b next × (values_at k b next x ≡ f x)
walk-inner k b e hi lo f v x true next on inner is chosen = (
  subst (λ (y : Edge). Is k b y) (sym chosen) inner.splits.hi_is,
  ap (λ (y : Edge). values_at k b y x) chosen ∙ sym (choice-taken k b hi lo v x on is) ∙ sym (ap (λ g. g x) inner.splits.is),
)
walk-inner k b e hi lo f v x false next on inner is chosen = (
  subst (λ (y : Edge). Is k b y) (sym chosen) inner.splits.lo_is,
  ap (λ (y : Edge). values_at k b y x) chosen ∙ sym (choice-left k b hi lo v x on is) ∙ sym (ap (λ g. g x) inner.splits.is),
)

-- the variable is one of the store's
pub walk-within : (k : Kind) (b : View) (v : ℕ) → IsOnVariables k → IsVariable k b v → v < b.vars
walk-within Bdd b v on is = is.1
walk-within Add b v on is = is.1
walk-within Zdd b v on is = absurd on

pub walk-levels : (k : Kind) (b : View) → IsOnVariables k → levels k b ≡ b.vars
walk-levels Bdd b on = refl
walk-levels Add b on = refl
walk-levels Zdd b on = absurd on

-- the value of a leaf
leaf-value : (k : Kind) (e : Edge) (f : ℕ → ValueOf k) (x : ℤ) (at : ℕ) → IsOnVariables k → IsLeafOf k e f x → x ≡ number_of k (f at)
leaf-value Bdd _ _ _ at on logic_one = refl
leaf-value Bdd _ _ _ at on logic_zero = refl
leaf-value Add _ _ _ at on (number e x) = refl
leaf-value Zdd e f x at on leaf = absurd on

pub walk-leaf : (k : Kind) (b : View) (e : Edge) (f : ℕ → ValueOf k) (x : ℤ) (at : ℕ) → IsOnVariables k → IsLeaf k b e f x → x ≡ number_of k (f at)
walk-leaf k b e f x at on leaf = leaf-value k e f x at on leaf.leaf

pub walk-top : (k : Kind) (b : View) (e hi lo : Edge) (f : ℕ → ValueOf k) (v : ℕ) (c : Bool) (next : Edge) → IsInner k b e f v hi lo → next ≡ cond c hi lo → b.level v < b.top next.index
walk-top k b e hi lo f v true next inner chosen = subst (λ (y : Edge). b.level v < b.top y.index) (sym chosen) inner.hi_top
walk-top k b e hi lo f v false next inner chosen = subst (λ (y : Edge). b.level v < b.top y.index) (sym chosen) inner.lo_top

-- the kinds other than that of families
pub branches_on_variables : (k : Kind) → (k ≡ Zdd → ⊥) → IsOnVariables k
branches_on_variables Bdd other = tt
branches_on_variables Add other = tt
branches_on_variables Zdd other = absurd (other refl)

-- a membership as a number
pub digit_of : (b : Bool) → bool_byte b ≡ digit b
digit_of true = refl
digit_of false = refl
