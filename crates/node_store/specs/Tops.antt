-- The top variables of edges.
use Rattle.std.specs.Prelude.{◌≡◌, ℕ, ◌<◌, nat_le, if◌then◌else◌, Option, Some, None, ℤ}
use Rattle.edge_bits.specs.declared.edges.Edge.{Edge}
use Rattle.edge_bits.specs.declared.edges.Kind.{Kind}
use Rattle.function_laws.specs.Kinds.{ValueOf}
use Rattle.node_store.specs.Views.{View, IsVariable, levels, IsLeaf}
use Rattle.node_store.specs.declared.parts.Top.{Top}

pub record IsTopOf (k : Kind) (w : View) (e : Edge) (v l : ℕ) : Type 0 where
  pub in_range : IsVariable k w v
  pub level : l ≡ w.level v
  pub here : w.top e.index ≡ w.level v
  pub within : w.level v < levels k w

abbrev pub TopIs : (k : Kind) → View → Edge → (ℕ → ValueOf k) → Option Top → Type 0
TopIs k w e f (Some t) = IsTopOf k w e t.var t.level
TopIs k w e f None = (x : ℤ) × IsLeaf k w e f x

abbrev pub upper_of : Option Top → Option Top → Option Top
upper_of None t = t
upper_of (Some a) None = Some a
upper_of (Some a) (Some b) = Some (if nat_le a.level b.level then a else b)
