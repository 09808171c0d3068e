-- How far the marking of a sweep has come.
use Rattle.std.specs.Prelude.{◌≡◌, ℕ, ◌+◌, ◌<◌, nat_lt, ◌==◌, Bool, true, false, ◌&&◌, ◌||◌, ◌⊎◌, if◌then◌else◌, length, Some, None, ℤ}
use Rattle.edge_bits.specs.declared.edges.Edge.{Edge}
use Rattle.edge_bits.specs.declared.words.Node.{Node}
use Rattle.edge_bits.specs.declared.words.Word.{Word}
use Rattle.edge_bits.specs.declared.words.Word.TheVariants.{Inner, Leaf}
use Rattle.edge_bits.specs.Permanent.{true_slot, first_projection, first_element}
use Rattle.edge_bits.specs.Reading.{element_of, plain}
use Rattle.function_laws.specs.declared.orders.Order.{Order}
use Rattle.function_laws.specs.declared.orders.Order.TheVariants.{Variables, Elements}
use Rattle.function_laws.specs.Sizes.{Orders, in_order}
use Rattle.function_laws.specs.SiftedOrders.{place_of}
use Rattle.node_store.specs.Contents.{Content, IsSound, IsPermanent}
use Rattle.node_store.specs.Changes.{After}
use Rattle.node_store.specs.Sweeps.{IsReached}

-- The rank of a word: its level, elements after variables, leaves last. A child's rank is greater.
abbrev pub rank_of : Orders → Word → ℕ
rank_of o (Leaf x) = length o.variables + length o.elements
rank_of o (Inner node) = if nat_lt node.var first_element then place_of node.var o.variables else length o.variables + place_of (element_of node.var) o.elements

abbrev pub rank_at : Orders → Order → ℕ → ℕ
rank_at o Variables level = level
rank_at o Elements level = length o.variables + level

-- of a lower rank, or of this one and a smaller slot
abbrev pub IsDone : Orders → ℕ → ℕ → ℕ → Word → Type 0
IsDone o rank from s word = (rank_of o word < rank) ⊎ ((rank_of o word ≡ rank) × (s < from))

-- The slots that are done are marked if they are roots or permanent, and then their children are; of the others the count is known to be 0.
pub record Marked (others : (ℕ → ℕ) → (ℕ → ℕ) → Type 0) (start now : Content) (is_root : ℕ → Bool) (rank from : ℕ) : Type 0 where
  pub same : After others (record start { marked = now.marked }) now
  pub zero_before : (s : ℕ) → start.count s ≡ 0 → start.pinned s ≡ false → is_root s ≡ false
  pub fresh : (s : ℕ) (word : Word) → start.word s ≡ Some word → (IsDone start.orders rank from s word → ⊥) → is_root s ≡ false
  pub reached : (s : ℕ) → now.marked s ≡ true → IsReached start is_root s
  pub roots : (s : ℕ) (word : Word) → start.word s ≡ Some word → IsDone start.orders rank from s word → is_root s ≡ true → now.marked s ≡ true
  pub permanent : (s : ℕ) (word : Word) → start.word s ≡ Some word → IsDone start.orders rank from s word → IsPermanent start s → now.marked s ≡ true
  pub zero_after : (s : ℕ) (word : Word) → start.word s ≡ Some word → IsDone start.orders rank from s word → is_root s ≡ false → (now.count s ≡ 0) × (now.pinned s ≡ false)
  pub closed : (s : ℕ) (node : Node) → start.word s ≡ Some (Inner node) → IsDone start.orders rank from s (Inner node) → now.marked s ≡ true
      → (now.marked node.hi ≡ true) × (now.marked node.lo.index ≡ true)

abbrev pub MarkedSome : ((ℕ → ℕ) → (ℕ → ℕ) → Type 0) → Content → Content → ℕ → ℕ → Type 0
MarkedSome others start now rank from = (is_root : ℕ → Bool) × Marked others start now is_root rank from

-- a projection's children
abbrev pub is_projection_of : Edge → Edge → Bool
is_projection_of hi lo = (hi.index == true_slot) && ((lo.index == true_slot) && lo.complement)

-- whether a node is to be marked
abbrev pub is_live : ℕ → Bool → Edge → Edge → Bool
is_live count marked hi lo = nat_lt 0 count || (marked || is_projection_of hi lo)

-- What handling one node does to the marking, from whatever start it goes on.
abbrev pub StepsNode : ((ℕ → ℕ) → (ℕ → ℕ) → Type 0) → Content → Content → ℕ → Edge → Edge → Type 0
StepsNode others v x slot hi lo = (start : Content) (is_root : ℕ → Bool) (rank : ℕ) (node : Node) → IsSound start → start.half ≡ None → start.word slot ≡ Some (Inner node) → hi ≡ plain node.hi → lo ≡ node.lo
    → rank_of start.orders (Inner node) ≡ rank → Marked others start v is_root rank slot → MarkedSome others start x rank (slot + 1)

abbrev pub StepsSlot : ((ℕ → ℕ) → (ℕ → ℕ) → Type 0) → Content → Content → ℕ → Type 0
StepsSlot others v x slot = (start : Content) (is_root : ℕ → Bool) (rank : ℕ) (node : Node) → IsSound start → start.half ≡ None → start.word slot ≡ Some (Inner node)
    → rank_of start.orders (Inner node) ≡ rank → Marked others start v is_root rank slot → MarkedSome others start x rank (slot + 1)

-- from the first slot of a level to the next level
abbrev pub StepsLevel : ((ℕ → ℕ) → (ℕ → ℕ) → Type 0) → Content → Content → Order → ℕ → Type 0
StepsLevel others v x order level = (start : Content) (is_root : ℕ → Bool) → IsSound start → start.half ≡ None → level < length (in_order start.orders order)
    → Marked others start v is_root (rank_at start.orders order level) 0 → MarkedSome others start x (rank_at start.orders order level + 1) 0

-- what it leaves besides the marks
abbrev pub OnlyMarks : ((ℕ → ℕ) → (ℕ → ℕ) → Type 0) → Content → Content → Type 0
OnlyMarks others v x = After others (record v { marked = x.marked }) x

-- over a whole order
abbrev pub StepsOrder : ((ℕ → ℕ) → (ℕ → ℕ) → Type 0) → Content → Content → Order → Type 0
StepsOrder others v x order = (start : Content) (is_root : ℕ → Bool) → IsSound start → start.half ≡ None
    → Marked others start v is_root (rank_at start.orders order 0) 0 → MarkedSome others start x (rank_at start.orders order (length (in_order start.orders order))) 0

-- a leaf
abbrev pub is_live_leaf : ℕ → ℕ → Bool
is_live_leaf count slot = nat_lt 0 count || nat_lt slot first_projection

abbrev pub StepsLeaf : ((ℕ → ℕ) → (ℕ → ℕ) → Type 0) → Content → Content → ℕ → Type 0
StepsLeaf others v x slot = (start : Content) (is_root : ℕ → Bool) (rank : ℕ) (value : ℤ) → IsSound start → start.word slot ≡ Some (Leaf value)
    → rank_of start.orders (Leaf value) ≡ rank → Marked others start v is_root rank slot → MarkedSome others start x rank (slot + 1)

abbrev pub StepsLeaves : ((ℕ → ℕ) → (ℕ → ℕ) → Type 0) → Content → Content → Type 0
StepsLeaves others v x = (start : Content) (is_root : ℕ → Bool) → IsSound start → start.half ≡ None
    → Marked others start v is_root (length start.orders.variables + length start.orders.elements) 0 → MarkedSome others start x (length start.orders.variables + length start.orders.elements + 1) 0

-- over all slots
abbrev pub StepsAll : ((ℕ → ℕ) → (ℕ → ℕ) → Type 0) → Content → Content → Type 0
StepsAll others v x = (start : Content) (is_root : ℕ → Bool) → IsSound start → start.half ≡ None → Marked others start v is_root 0 0
    → MarkedSome others start x (length start.orders.variables + length start.orders.elements + 1) 0
