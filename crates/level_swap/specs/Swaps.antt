-- What a swap of two neighbours of an order leaves.
use Rattle.std.specs.Prelude.{◌≡◌, ℕ, ◌+◌, ◌*◌, ◌<◌, ◌≤◌, ◌⊎◌, Bool, true, false, List, length, Some, None}
use Rattle.std.specs.List.{list_any}
use Rattle.edge_bits.specs.declared.edges.Edge.{Edge}
use Rattle.edge_bits.specs.declared.edges.Kind.{Kind}
use Rattle.edge_bits.specs.declared.words.Node.{Node}
use Rattle.edge_bits.specs.declared.words.Word.{Word}
use Rattle.edge_bits.specs.declared.words.Word.TheVariants.{Inner}
use Rattle.function_laws.specs.Kinds.{Denoted, ValueOf, function_of, part_at, Lacks}
use Rattle.function_laws.specs.declared.orders.Order.{Order}
use Rattle.function_laws.specs.Sizes.{Orders, is_one}
use Rattle.node_store.specs.Views.{function_at}
use Rattle.node_store.specs.Contents.{Content, IsSound, IsUsed, var_at, view_of, used_slots, nodes_of, is_node_of}
use Rattle.node_store.specs.Changes.{exchanged}
use Rattle.node_store.specs.Sweeps.{root_functions}

-- twice the nodes of a level and those of the next
abbrev pub needed : Content → Order → ℕ → ℕ
needed w order level = 2 * nodes_of w (var_at w order level) + nodes_of w (var_at w order (level + 1))

-- some edge denotes the function
abbrev pub HasEdge : Content → Denoted → Type 0
HasEdge w f = (e : Edge) × (function_at (view_of w) e ≡ Some f)

-- one of the list is the function, for a diagram
abbrev pub HasOneOf : Orders → List Denoted → Denoted → Type 0
HasOneOf orders fs f = list_any (is_one orders f) fs ≡ true

-- The children that a swap has to store are among these: the parts by the lower variable of the functions of upper nodes that depend on it, where no edge denotes them.
abbrev pub HasDue : Content → Order → ℕ → List Denoted → Type 0
HasDue w order level fs = (s : ℕ) (node : Node) (k : Kind) (f : ℕ → ValueOf k) (b : Bool)
    → w.word s ≡ Some (Inner node) → node.var ≡ var_at w order level → w.function s ≡ Some (function_of k f)
    → (Lacks k f (var_at w order (level + 1)) → ⊥)
    → HasEdge w (function_of k (part_at k f (var_at w order (level + 1)) b)) ⊎ HasOneOf w.orders fs (function_of k (part_at k f (var_at w order (level + 1)) b))

-- room for the children that aren't in use yet
abbrev pub HasRoomBack : Content → Order → ℕ → Type 0
HasRoomBack w order level = (fs : List Denoted) × (used_slots w + length fs ≤ w.limit) × HasDue w order level fs

-- a node names the slot whose own slot, before this one, had a node of the upper variable
abbrev pub IsNamedBefore : Content → Content → ℕ → ℕ → ℕ → Type 0
IsNamedBefore old new upper from s =
    (t : ℕ) × (node : Node) × (t < from) × (new.word t ≡ Some (Inner node)) × ((node.hi ≡ s) ⊎ (node.lo.index ≡ s)) × (is_node_of upper (old.word t) ≡ true)

-- The two are exchanged. Each slot in use keeps what it denotes, its generation and its count; further slots came into use.
pub record IsSwapped (others : (ℕ → ℕ) → (ℕ → ℕ) → Type 0) (order : Order) (level : ℕ) (old new : Content) : Type 0 where
  pub orders : new.orders ≡ exchanged old.orders order level
  pub limit : new.limit ≡ old.limit
  pub function : (s : ℕ) (f : Denoted) → old.function s ≡ Some f → new.function s ≡ Some f
  -- what is no node of the upper variable has its old word
  pub word : (s : ℕ) (word : Word) → old.word s ≡ Some word → is_node_of (var_at old order level) (Some word) ≡ false → new.word s ≡ Some word
  -- what came into use is named by what was a node of the upper variable
  pub stored : (s : ℕ) → old.word s ≡ None → IsUsed new s → IsNamedBefore old new (var_at old order level) old.limit s
  pub generation : new.generation ≡ old.generation
  -- no two slots in use are one function, for BDDs up to complement
  pub once : (s t : ℕ) (f g : Denoted) → new.function s ≡ Some f → new.function t ≡ Some g → is_one new.orders f g ≡ true → s ≡ t
  -- any slots that were in use have the functions of before, as a sweep lists them for the size that it leaves
  pub roots : (is_root : ℕ → Bool) → ((s : ℕ) → is_root s ≡ true → (f : Denoted) × (old.function s ≡ Some f)) → root_functions new is_root ≡ root_functions old is_root
  -- at most two nodes were stored for each of the upper ones
  pub few : used_slots new ≤ used_slots old + 2 * nodes_of old (var_at old order level)
  pub marked : new.marked ≡ old.marked
  pub pinned : new.pinned ≡ old.pinned
  pub sweeping : new.sweeping ≡ old.sweeping
  pub half : new.half ≡ None
  pub counts : others old.count new.count
  pub sound : IsSound new
