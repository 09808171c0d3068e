-- What a call on a whole store does to it.
use Rattle.std.specs.Prelude.{◌≡◌, ◌≢◌, ℕ, suc, ◌+◌, ◌%◌, ◌^◌, ◌<◌, ◌≤◌, ◌==◌, Bool, true, false, ◌⊎◌, if◌then◌else◌, length, Option, Some, None, MatchOption}
use Rattle.std.specs.List.{swap}
use Rattle.edge_bits.specs.declared.edges.Edge.{Edge}
use Rattle.edge_bits.specs.declared.edges.Kind.{Kind}
use Rattle.edge_bits.specs.declared.words.Node.{Node}
use Rattle.edge_bits.specs.declared.words.Word.{Word}
use Rattle.edge_bits.specs.declared.words.Word.TheVariants.{Inner, Leaf}
use Rattle.function_laws.specs.declared.orders.Order.{Order}
use Rattle.function_laws.specs.Sizes.{Orders, in_order}
use Rattle.function_laws.specs.SiftedOrders.{with_order}
use Rattle.function_laws.specs.Kinds.{Denoted, ValueOf, function_of, Lacks, opposite}
use Rattle.node_store.specs.Views.{CanMake, Is, IsVariable, IsProper, function_at, values_at, node_values}
use Rattle.node_store.specs.Contents.{Content, Pair, IsSound, IsUsed, IsPermanent, IsHalf, view_of, level_of, var_at, used_slots}

-- the same map, but for one slot
abbrev pub put_at : {A : Type 0} → (ℕ → A) → ℕ → A → ℕ → A
put_at f i x j = if j == i then x else f j

-- It is as this, but for what others did to the counts meanwhile, and sound.
pub record After (others : (ℕ → ℕ) → (ℕ → ℕ) → Type 0) (w new : Content) : Type 0 where
  pub orders : new.orders ≡ w.orders
  pub limit : new.limit ≡ w.limit
  pub word : new.word ≡ w.word
  pub function : new.function ≡ w.function
  pub generation : new.generation ≡ w.generation
  pub marked : new.marked ≡ w.marked
  pub pinned : new.pinned ≡ w.pinned
  pub sweeping : new.sweeping ≡ w.sweeping
  pub half : new.half ≡ w.half
  pub counts : others w.count new.count
  pub sound : IsSound new

abbrev pub with_mark : Content → ℕ → Bool → Content
with_mark w s b = record w { marked = put_at w.marked s b }

abbrev pub with_pin : Content → ℕ → Bool → Content
with_pin w s b = record w { pinned = put_at w.pinned s b }

abbrev pub with_word : Content → ℕ → Word → Content
with_word w s word = record w { word = put_at w.word s (Some word) }

-- a new node, in a slot that was free
abbrev pub with_node : Content → ℕ → Node → Denoted → Content
with_node w s node f = record w { word = put_at w.word s (Some (Inner node)); function = put_at w.function s (Some f) }

abbrev pub next_generation : ℕ → ℕ
next_generation g = (g + 1) % 2 ^ 32

abbrev pub without : Content → ℕ → Content
without w s = record w {
  word = put_at w.word s None;
  function = put_at w.function s None;
  generation = put_at w.generation s (next_generation (w.generation s));
}

-- two neighbours of an order exchanged
abbrev pub exchanged : Orders → Order → ℕ → Orders
exchanged orders order level = with_order orders order (swap (in_order orders order) level (level + 1))

-- no swap is half made, or that of these two
abbrev pub NoneOrHalf : Content → ℕ → ℕ → Type 0
NoneOrHalf w upper lower = (w.half ≡ None) ⊎ IsHalf w upper lower

-- the levels of two variables of a kind, the first next above the second
abbrev pub NextAbove : Content → ℕ → ℕ → Type 0
NextAbove w upper lower = suc (level_of w.orders upper) ≡ level_of w.orders lower

-- what is asked of a node that takes the place of another in its slot
pub record CanRewrite (k : Kind) (w : Content) (s : ℕ) (v : ℕ) (hi lo : Edge) : Type 0 where
  pub node : Node
  pub was : w.word s ≡ Some (Inner node)
  pub spare : IsPermanent w s → ⊥
  pub in_range : IsVariable k (view_of w) v
  pub half : (NextAbove w node.var v × NoneOrHalf w node.var v) ⊎ (NextAbove w v node.var × NoneOrHalf w v node.var)
  pub hi_is : Is k (view_of w) hi
  pub lo_is : Is k (view_of w) lo
  pub plain : hi.complement ≡ false
  pub hi_lacks : Lacks k (values_at k (view_of w) hi) v
  pub lo_lacks : Lacks k (values_at k (view_of w) lo) v
  pub proper : IsProper k (values_at k (view_of w) hi) (values_at k (view_of w) lo)
  pub same : w.function s ≡ Some (function_of k (node_values k (view_of w) v hi lo))

-- the pair of which one is rewritten to the other's variable
abbrev pub pair_of : Content → ℕ → ℕ → Pair
pair_of w u v = if level_of w.orders u + 1 == level_of w.orders v then record { upper = u; lower = v } else record { upper = v; lower = u }

abbrev pub var_of : Option Word → ℕ
var_of None = 0
var_of (Some (Leaf x)) = 0
var_of (Some (Inner node)) = node.var

abbrev pub rewritten : Content → ℕ → ℕ → Edge → Edge → Content
rewritten w s v hi lo = record w {
  word = put_at w.word s (Some (Inner (record { var = v; hi = hi.index; lo = lo })));
  half = Some (pair_of w (var_of (w.word s)) v);
}

-- what is asked of a node that is found or stored: unless it is one of its children, no node of another variable denotes its function, or the complement
pub record CanAdd (k : Kind) (w : Content) (v : ℕ) (hi lo : Edge) : Type 0 where
  pub can_make : CanMake k (view_of w) v hi lo
  pub alone : IsProper k (values_at k (view_of w) hi) (values_at k (view_of w) lo) → (s : ℕ) (node : Node) → w.word s ≡ Some (Inner node)
      → (w.function s ≡ Some (function_of k (node_values k (view_of w) v hi lo))) ⊎ (w.function s ≡ Some (opposite (function_of k (node_values k (view_of w) v hi lo))))
      → node.var ≡ v

-- It was there, or came to stand in a slot that was free.
pub record Added (others : (ℕ → ℕ) → (ℕ → ℕ) → Type 0) (k : Kind) (old new : Content) (v : ℕ) (hi lo e : Edge) : Type 0 where
  pub denotes : function_at (view_of new) e ≡ Some (function_of k (node_values k (view_of old) v hi lo))
  pub way : After others old new
      ⊎ ((node : Node) × (f : Denoted) × (old.word e.index ≡ None) × (e.index < old.limit) × (node.var ≡ v)
      × After others (with_node old e.index node f) new)

-- there is room for one more, or the node is there
abbrev pub HasRoomFor : (k : Kind) → Content → ℕ → Edge → Edge → Type 0
HasRoomFor k w v hi lo =
    (used_slots w < w.limit) ⊎ ((e : Edge) × (function_at (view_of w) e ≡ Some (function_of k (node_values k (view_of w) v hi lo))))

-- a slot that may be freed: no node names it
pub record CanFree (w : Content) (s : ℕ) : Type 0 where
  pub used : IsUsed w s
  pub spare : IsPermanent w s → ⊥
  pub sweeping : w.sweeping ≡ true
  pub uncounted : w.count s ≡ 0
  pub unpinned : w.pinned s ≡ false
  pub unnamed : (t : ℕ) (node : Node) → w.word t ≡ Some (Inner node) → (node.hi ≢ s) × (node.lo.index ≢ s)

-- The orders may be exchanged at a level: no function of a node of the upper variable depends on the lower one.
pub record CanExchange (w : Content) (order : Order) (level : ℕ) : Type 0 where
  pub within : level + 1 < length (in_order w.orders order)
  pub half : NoneOrHalf w (var_at w order level) (var_at w order (level + 1))
  pub lacks : (s : ℕ) (node : Node) (k : Kind) (f : ℕ → ValueOf k) → w.word s ≡ Some (Inner node) → node.var ≡ var_at w order level
      → w.function s ≡ Some (function_of k f) → Lacks k f (var_at w order (level + 1))

-- the least slot from this one on whose word passes
abbrev pub IsLeastFrom : Content → (ℕ → Type 0) → ℕ → Option ℕ → Type 0
IsLeastFrom w passes from found = MatchOption found
    ((s : ℕ) → from ≤ s → passes s → ⊥)
    (λ s. (from ≤ s) × passes s × ((t : ℕ) → from ≤ t → t < s → passes t → ⊥))
