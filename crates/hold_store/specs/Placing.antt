-- A node that is found or stored.
use Rattle.std.specs.Prelude.{◌≡◌, ◌⊎◌, ℕ, ◌<◌, ◌≤◌, Some, None}
use Rattle.edge_bits.specs.Words.{IsInRange}
use Rattle.edge_bits.specs.declared.edges.Kind.{Kind}
use Rattle.edge_bits.specs.declared.words.Node.{Node}
use Rattle.edge_bits.specs.declared.words.Word.TheVariants.{Inner}
use Rattle.node_store.specs.Contents.{Content, used_slots, view_of}
use Rattle.node_store.specs.Changes.{with_node}
use Rattle.node_store.specs.Views.{IsVariable}
use Rattle.hold_store.specs.Held.{IsNew, node_function}

-- no slot behind the three that are told by their number has the node
abbrev pub IsAbsent : Content → Node → Type 0
IsAbsent w node = (s : ℕ) → 3 ≤ s → w.word s ≡ Some (Inner node) → ⊥

-- What is asked of a node that is found or stored: where it is absent it is new, and a slot is free.
pub record CanPlace (w : Content) (node : Node) : Type 0 where
  pub fits : IsInRange (Inner node)
  pub kind : Kind
  pub in_range : IsVariable kind (view_of w) node.var
  pub new : IsAbsent w node → IsNew kind w node
  pub room : IsAbsent w node → used_slots w < w.limit

-- the node stood there, or came to stand in a slot that was free
abbrev pub IsPlaced : Content → Content → Node → ℕ → Type 0
IsPlaced w new node s = ((new ≡ w) × (w.word s ≡ Some (Inner node)))
    ⊎ (IsAbsent w node × (s < w.limit) × (w.word s ≡ None) × ((k : Kind) → IsNew k w node → new ≡ with_node w s node (node_function k w node)))
