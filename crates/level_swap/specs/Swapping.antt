-- How far a swap in place has come.
use Rattle.std.specs.Prelude.{◌≡◌, ◌≢◌, ℕ, ◌+◌, ◌*◌, ◌<◌, ◌≤◌, true, false, ◌⊎◌, length, Some, None}
use Rattle.std.specs.List.{filter, range_with_len}
use Rattle.edge_bits.specs.Reading.{plain}
use Rattle.edge_bits.specs.declared.edges.Edge.{Edge}
use Rattle.edge_bits.specs.declared.edges.Kind.{Kind}
use Rattle.edge_bits.specs.declared.words.Node.{Node}
use Rattle.edge_bits.specs.declared.words.Word.{Word}
use Rattle.edge_bits.specs.declared.words.Word.TheVariants.{Inner}
use Rattle.function_laws.specs.declared.orders.Order.{Order}
use Rattle.function_laws.specs.Kinds.{Denoted, ValueOf, function_of, joined_at, part_at, Lacks}
use Rattle.function_laws.specs.Sizes.{in_order}
use Rattle.node_store.specs.Views.{Is, IsVariable, function_at, values_at}
use Rattle.node_store.specs.Contents.{Content, Pair, IsSound, IsUsed, var_at, view_of, level_of, is_node_of, used_slots}
use Rattle.node_store.specs.Changes.{NextAbove, NoneOrHalf}
use Rattle.level_swap.specs.Swaps.{HasRoomBack, IsNamedBefore}

-- The upper nodes before this slot are done: each lacks the lower variable, or was rewritten to it.
pub record Swapping (others : (ℕ → ℕ) → (ℕ → ℕ) → Type 0) (order : Order) (level : ℕ) (start now : Content) (from : ℕ) : Type 0 where
  pub orders : now.orders ≡ start.orders
  pub limit : now.limit ≡ start.limit
  pub generation : now.generation ≡ start.generation
  pub marked : now.marked ≡ start.marked
  pub pinned : now.pinned ≡ start.pinned
  pub sweeping : now.sweeping ≡ start.sweeping
  pub half : NoneOrHalf now (var_at start order level) (var_at start order (level + 1))
  pub counts : others start.count now.count
  pub sound : IsSound now
  pub function : (s : ℕ) (f : Denoted) → start.function s ≡ Some f → now.function s ≡ Some f
  pub inside : from ≤ start.limit
  -- what isn't done, or is no upper node, has its old word
  pub waiting : (s : ℕ) (word : Word) → start.word s ≡ Some word → (is_node_of (var_at start order level) (Some word) ≡ false) ⊎ (from ≤ s) → now.word s ≡ Some word
  -- what is done, or was stored by the swap, lacks the lower variable
  pub done : (s : ℕ) (node : Node) (k : Kind) (f : ℕ → ValueOf k) → now.word s ≡ Some (Inner node) → node.var ≡ var_at start order level
      → now.function s ≡ Some (function_of k f) → (s < from) ⊎ (start.word s ≡ None) → Lacks k f (var_at start order (level + 1))
  -- what came into use is named by what is done
  pub stored : (s : ℕ) → start.word s ≡ None → IsUsed now s → IsNamedBefore start now (var_at start order level) from s
  -- what is still due fits
  pub room : HasRoomBack now order level
  pub few : used_slots now ≤ used_slots start + 2 * length (filter (λ s. is_node_of (var_at start order level) (start.word s)) (range_with_len 0 from))

-- an upper node is next
pub record SwapsSlot (others : (ℕ → ℕ) → (ℕ → ℕ) → Type 0) (order : Order) (level : ℕ) (start now : Content) (upper lower slot : ℕ) : Type 0 where
  pub upper_is : upper ≡ var_at start order level
  pub lower_is : lower ≡ var_at start order (level + 1)
  pub within : level + 1 < length (in_order start.orders order)
  pub node : is_node_of upper (now.word slot) ≡ true
  pub so_far : Swapping others order level start now slot

-- A node of the upper one of two neighbours whose swap may be half made, by what its children denote.
pub record UpperNode (k : Kind) (w : Content) (upper lower slot : ℕ) (high low : ℕ → ValueOf k) : Type 0 where
  pub sound : IsSound w
  pub node : Node
  pub word : w.word slot ≡ Some (Inner node)
  pub var : node.var ≡ upper
  pub function : w.function slot ≡ Some (function_of k (joined_at k upper high low))
  pub high_lacks : Lacks k high upper
  pub low_lacks : Lacks k low upper
  pub upper_in : IsVariable k (view_of w) upper
  pub lower_in : IsVariable k (view_of w) lower
  pub next : NextAbove w upper lower
  pub half : NoneOrHalf w upper lower

-- its children, one of which is a node of the lower variable
pub record TurnsNode (others : (ℕ → ℕ) → (ℕ → ℕ) → Type 0) (order : Order) (level : ℕ) (start now : Content) (upper lower slot : ℕ) (hi lo : Edge) : Type 0 where
  pub kind : Kind
  pub high : ℕ → ValueOf kind
  pub low : ℕ → ValueOf kind
  pub ready : SwapsSlot others order level start now upper lower slot
  pub upper_node : UpperNode kind now upper lower slot high low
  pub hi_is : function_at (view_of now) hi ≡ Some (function_of kind high)
  pub lo_is : function_at (view_of now) lo ≡ Some (function_of kind low)
  pub spare : (node : Node) → now.word slot ≡ Some (Inner node) → (hi ≡ plain node.hi) × (lo ≡ node.lo)
  pub touches : (is_node_of lower (now.word hi.index) ≡ true) ⊎ (is_node_of lower (now.word lo.index) ≡ true)

-- An edge that is cut by a variable: none of its node's stands above it, and the variable is not the upper one of a swap that is half made.
pub record CanCut (k : Kind) (w : Content) (v : ℕ) (e : Edge) : Type 0 where
  pub edge : Is k (view_of w) e
  pub in_range : IsVariable k (view_of w) v
  pub below : (node : Node) → w.word e.index ≡ Some (Inner node) → level_of w.orders v ≤ level_of w.orders node.var
  pub lower : (p : Pair) → w.half ≡ Some p → p.upper ≢ v

-- both parts of it
abbrev pub IsCut : Kind → Content → ℕ → Edge → Edge → Edge → Type 0
IsCut k w v e hi lo =
    (function_at (view_of w) hi ≡ Some (function_of k (part_at k (values_at k (view_of w) e) v true)))
    × (function_at (view_of w) lo ≡ Some (function_of k (part_at k (values_at k (view_of w) e) v false)))
