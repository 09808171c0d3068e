-- Tasks of two functions of a kind that are computed place by place.
use Rattle.std.specs.Prelude.{◌≡◌, ℕ, ◌-◌, false, min, ◌⊎◌}
use Rattle.edge_bits.specs.declared.edges.Edge.{Edge}
use Rattle.edge_bits.specs.declared.edges.Kind.{Kind}
use Rattle.function_laws.specs.Numbers.{is_value}
use Rattle.edge_bits.specs.declared.edges.Kind.TheVariants.{Bdd, Add, Zdd}
use Rattle.function_laws.specs.Kinds.{Denoted, ValueOf, function_of, place}
use Rattle.node_store.specs.Views.{View, Denotes, Permanent, AreTwo, IsVariable, values_at, levels, Splits}
use Rattle.node_store.specs.Work.{IsPart}
use Rattle.node_store.specs.declared.operator.Task.{Task}

-- the operation, place by place, on what two edges denote
abbrev pub place_at : (k : Kind) → (ValueOf k → ValueOf k → ValueOf k) → View → Edge → Edge → ℕ → ValueOf k
place_at k op w f g = place op (values_at k w f) (values_at k w g)

-- the same two operands
abbrev pub IsOrderOf : Edge → Edge → Task → Type 0
IsOrderOf f g t = ((t.f ≡ f) × (t.g ≡ g)) ⊎ ((t.f ≡ g) × (t.g ≡ f))

abbrev pub Commutes : {X : Type 0} → (X → X → X) → Type 0
Commutes {X} op = (a b : X) → op a b ≡ op b a

-- both are the operands, in an order that doesn't matter
abbrev pub IsOrderFor : {X : Type 0} → (X → X → X) → Edge → Edge → Edge → Edge → Type 0
IsOrderFor op f g a b = ((a ≡ f) × (b ≡ g)) ⊎ ((a ≡ g) × (b ≡ f) × Commutes op)

abbrev pub TwoAnswers : (k : Kind) → (ValueOf k → ValueOf k → ValueOf k) → View → Task → Edge → Type 0
TwoAnswers k op w t e = Denotes k w e (place_at k op w t.f t.g)

pub record TwoSplits (k : Kind) (w : View) (t : Task) (v : ℕ) (hi lo : Task) : Type 0 where
  pub in_range : IsVariable k w v
  pub f : Splits k w v (values_at k w t.f) hi.f lo.f
  pub g : Splits k w v (values_at k w t.g) hi.g lo.g

abbrev pub two_depth : Kind → View → Task → ℕ
two_depth k w t = levels k w - min (w.top t.f.index) (w.top t.g.index)

-- the work of a call is its value
abbrev pub value_of_two : (k : Kind) → (ValueOf k → ValueOf k → ValueOf k) → Edge → Edge → View → Denoted → Type 0
value_of_two k op f g w F = F ≡ function_of k (place_at k op w f g)

-- a task of the call with these operands
pub record TwoDue (k : Kind) (op : ValueOf k → ValueOf k → ValueOf k) (f g : Edge) (w : View) (t : Task) : Type 0 where
  pub permanent : Permanent w
  pub roots : AreTwo k w f g
  pub two : AreTwo k w t.f t.g
  pub part : IsPart k w (place_at k op w f g) (place_at k op w t.f t.g)

-- a value that no leaf can have
abbrev pub Overflows : (k : Kind) → (ℕ → ValueOf k) → Type 0
Overflows Bdd f = ⊥
Overflows Add f = (x : ℕ) × (is_value (f x) ≡ false)
Overflows Zdd f = ⊥
