-- Operands that are open, and their parts at the upper one of their top variables.
use Rattle.std.specs.Prelude.{◌≡◌, ℕ, ◌<◌, ◌≤◌, ℤ, pos}
use Rattle.edge_bits.specs.declared.edges.Edge.{Edge}
use Rattle.edge_bits.specs.declared.edges.Kind.{Kind}
use Rattle.node_store.specs.Three.{ThreeSplits, three_depth}
use Rattle.node_store.specs.Tops.{TopIs}
use Rattle.node_store.specs.Views.{View, Is, IsLeaf, IsTop, IsVariable, Opens, PartsAt, Permanent, levels, values_at}
use Rattle.node_store.specs.declared.grow.Opened.{Opened}
use Rattle.node_store.specs.declared.grow.Opened.TheVariants.{Inner, Leaf}
use Rattle.node_store.specs.declared.operator.Task.{Task}
use Rattle.node_store.specs.declared.parts.Halves.{Halves}
use Rattle.node_store.specs.declared.parts.Operand.{Operand}
use Rattle.node_store.specs.declared.parts.Split.{Split}
use Rattle.node_store.specs.declared.parts.Split.TheVariants.{Leaves, At}

pub record IsOperand (k : Kind) (w : View) (o : Operand) : Type 0 where
  pub is : Is k w o.edge
  pub opens : Opens k w o.edge (values_at k w o.edge) o.opened
  pub top : TopIs k w o.edge (values_at k w o.edge) o.top

-- the value of a leaf
abbrev pub leaf_value : Opened → ℤ
leaf_value (Leaf x) = x
leaf_value (Inner v hi lo) = pos 0

-- what is asked for the parts of an operand at a variable
pub record CanHalve (k : Kind) (w : View) (o : Operand) (v : ℕ) : Type 0 where
  pub permanent : Permanent w
  pub operand : IsOperand k w o
  pub in_range : IsVariable k w v
  pub above : w.level v ≤ w.top o.edge.index
  pub within : w.level v < levels k w

-- the parts of two functions at the upper one of their top variables
pub record HalvesOfTwo (k : Kind) (w : View) (a b : Edge) (h : Halves) : Type 0 where
  pub top : IsTop k w a b h.top.var
  pub level : h.top.level ≡ w.level h.top.var
  pub f : PartsAt k w a (values_at k w a) h.top.var h.hi.f h.lo.f
  pub g : PartsAt k w b (values_at k w b) h.top.var h.hi.g h.lo.g

abbrev pub IsSplitTwo : Kind → View → Edge → Edge → Split → Type 0
IsSplitTwo k w f g (Leaves x y) = IsLeaf k w f (values_at k w f) x × IsLeaf k w g (values_at k w g) y
IsSplitTwo k w f g (At h) = HalvesOfTwo k w f g h

-- the parts of a task of three functions
pub record IsSplitThree (k : Kind) (w : View) (t : Task) (h : Halves) : Type 0 where
  pub splits : ThreeSplits k w t h.top.var h.hi h.lo
  pub hi_less : three_depth k w h.hi < three_depth k w t
  pub lo_less : three_depth k w h.lo < three_depth k w t
