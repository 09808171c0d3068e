-- The nodes of rows.
use Rattle.std.specs.Prelude.{◌+◌, ℕ, ℤ, Bool, if◌then◌else◌, Option, Some, None}
use Rattle.edge_bits.specs.Permanent.{first_element}
use Rattle.edge_bits.specs.declared.edges.Edge.{Edge}
use Rattle.edge_bits.specs.declared.edges.Kind.{Kind}
use Rattle.edge_bits.specs.declared.edges.Kind.TheVariants.{Bdd, Add, Zdd}
use Rattle.function_laws.specs.declared.history.Name.{Name}
use Rattle.function_laws.specs.Kinds.{ValueOf}
use Rattle.node_store.specs.Views.{View, IsInner, IsLeaf}
use Rattle.store_rows.specs.declared.nodes.Top.{Top}
use Rattle.store_rows.specs.declared.nodes.Top.TheVariants.{Node, Leaf}
use Rattle.store_rows.specs.RowStores.{Gains, IsLiveAs, Names, RowStoreView, Same, edge_in, view_of}

-- by which a store knows the variable, or the element, with this number
abbrev pub numbered : Kind → ℕ → ℕ
numbered Bdd n = n
numbered Add n = n
numbered Zdd n = first_element + n

-- The edge is that of a node of this variable, or element, whose children are what the function is split into; or of a leaf.
abbrev pub IsTop : (k : Kind) → View → Edge → (ℕ → ValueOf k) → Top → Type 0
IsTop k w e f (Node n) = (hi : Edge) × (lo : Edge) × IsInner k w e f (numbered k n) hi lo
IsTop k w e f (Leaf x) = IsLeaf k w e f x

-- A row came with the child that is taken of a row's node; or that is a leaf, and no row came.
abbrev pub IsChild : RowStoreView → RowStoreView → Name → Bool → Option Name → Type 0
IsChild old new h taken (Some child) =
    (k : Kind) × (hi : Edge) × (lo : Edge) × IsLiveAs k old.rows.live h × Gains old new child k (if taken then hi else lo)
    × ((f : ℕ → ValueOf k) → Names old k h f → (n : ℕ) × IsInner k (view_of new) (edge_in old.rows.live h) f (numbered k n) hi lo)
IsChild old new h taken None = Same old new × ((k : Kind) (f : ℕ → ValueOf k) → Names old k h f → (x : ℤ) × IsLeaf k (view_of new) (edge_in old.rows.live h) f x)
