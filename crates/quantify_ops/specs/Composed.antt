-- Tasks of two functions of which the second is put for a variable of the first.
use Rattle.std.specs.Prelude.{◌≡◌, ◌≢◌, ℕ, ◌<◌, Bool, ◌⊎◌}
use Rattle.edge_bits.specs.declared.edges.Edge.{Edge}
use Rattle.edge_bits.specs.declared.edges.Kind.TheVariants.{Bdd}
use Rattle.function_laws.specs.Values.{IsFree, composed, projection}
use Rattle.function_laws.specs.Kinds.{Denoted, BddFunction}
use Rattle.node_store.specs.Three.{IsPartOrComplement}
use Rattle.node_store.specs.Two.{TwoSplits}
use Rattle.node_store.specs.Views.{View, AreTwo, Denotes, IsVariable, Permanent, Splits, bdd_at}
use Rattle.node_store.specs.declared.operator.Task.{Task}
use Rattle.quantify_ops.specs.declared.composition.Found.{Found}
use Rattle.quantify_ops.specs.declared.composition.Found.TheVariants.{Free, Own, Above}

abbrev pub composed_at : View → Edge → ℕ → Edge → ℕ → Bool
composed_at w f v g = composed (bdd_at w f) v (bdd_at w g)

-- the functions and the variable are of the store
pub record AreComposed (w : View) (f : Edge) (v : ℕ) (g : Edge) : Type 0 where
  pub two : AreTwo Bdd w f g
  pub in_range : IsVariable Bdd w v

-- what a call stores: its value
abbrev pub value_of_compose : Edge → ℕ → Edge → View → Denoted → Type 0
value_of_compose f v g w F = F ≡ BddFunction (composed_at w f v g)

-- a part of the call's value, or a function that is below the variable
abbrev pub IsPartOrBelow : Edge → ℕ → Edge → View → Task → Type 0
IsPartOrBelow f v g w t = IsPartOrComplement Bdd w (composed_at w f v g) (composed_at w t.f v t.g) ⊎ (w.level v < w.top t.f.index)

-- a task of the call with these functions and this variable, whose projection is p
pub record ComposeDue (f : Edge) (v : ℕ) (g p : Edge) (w : View) (t : Task) : Type 0 where
  pub projection : Denotes Bdd w p (projection v)
  pub permanent : Permanent w
  pub root : AreComposed w f v g
  pub two : AreTwo Bdd w t.f t.g
  pub place : IsPartOrBelow f v g w t

abbrev pub ComposeAnswers : ℕ → View → Task → Edge → Type 0
ComposeAnswers v w t e = Denotes Bdd w e (composed_at w t.f v t.g)

-- the first function splits at the variable itself, or both split at another one
abbrev pub SplitsAround : ℕ → View → Task → ℕ → Task → Task → Type 0
SplitsAround v w t x hi lo = ((x ≡ v) × Splits Bdd w x (bdd_at w t.f) hi.f lo.f) ⊎ ((x ≢ v) × TwoSplits Bdd w t x hi lo)

pub record ComposeSplits (f : Edge) (v : ℕ) (g : Edge) (w : View) (t : Task) (x : ℕ) (hi lo : Task) : Type 0 where
  pub part : IsPartOrComplement Bdd w (composed_at w f v g) (composed_at w t.f v t.g)
  pub in_range : IsVariable Bdd w x
  pub hi_is : AreTwo Bdd w hi.f hi.g
  pub lo_is : AreTwo Bdd w lo.f lo.g
  pub around : SplitsAround v w t x hi lo

-- the function's top variable is this one
pub record IsOwn (w : View) (f : Edge) (v : ℕ) (hi lo : Edge) : Type 0 where
  pub splits : Splits Bdd w v (bdd_at w f) hi lo
  pub here : w.top f.index ≡ w.level v
  pub within : w.level v < w.vars
  pub hi_top : w.level v < w.top hi.index
  pub lo_top : w.level v < w.top lo.index

-- the function depends on its top variable, which stands above this one
pub record IsAbove (w : View) (f : Edge) (v : ℕ) : Type 0 where
  pub upper : ℕ
  pub in_range : IsVariable Bdd w upper
  pub depends : IsFree (bdd_at w f) upper → ⊥
  pub here : w.top f.index ≡ w.level upper
  pub higher : w.level upper < w.level v

-- what a function's top node tells of the variable
abbrev pub IsFound : View → Edge → ℕ → Found → Type 0
IsFound w f v Free = IsFree (bdd_at w f) v
IsFound w f v (Own hi lo) = IsOwn w f v hi lo
IsFound w f v Above = IsAbove w f v
