-- The pass over a level that follows a swap.
use Rattle.std.specs.Prelude.{◌≡◌, ℕ, ◌<◌, Bool, true, false, ◌⊎◌, Some, None}
use Rattle.edge_bits.specs.declared.words.Node.{Node}
use Rattle.edge_bits.specs.declared.words.Word.{Word}
use Rattle.edge_bits.specs.declared.words.Word.TheVariants.{Inner}
use Rattle.node_store.specs.Contents.{Content, IsSound, IsUsed, IsNamed, IsPermanent, is_node_of}

-- permanent, a root or named
abbrev pub IsHeldUp : Content → (ℕ → Bool) → ℕ → Type 0
IsHeldUp w is_root s = IsPermanent w s ⊎ ((is_root s ≡ true) ⊎ IsNamed w s)

-- in use, and held up or no node of this variable
abbrev pub Stays : Content → (ℕ → Bool) → ℕ → ℕ → Type 0
Stays w is_root v s = IsUsed w s × ((is_node_of v (w.word s) ≡ false) ⊎ IsHeldUp w is_root s)

-- a node that stays names it
abbrev pub IsNamedByStaying : Content → (ℕ → Bool) → ℕ → ℕ → Type 0
IsNamedByStaying w is_root v s = (t : ℕ) × Stays w is_root v t × ((node : Node) × (w.word t ≡ Some (Inner node)) × ((node.hi ≡ s) ⊎ (node.lo.index ≡ s)))

-- Only nodes of this variable may have no name, and no death of such a node takes the last name of another slot.
pub record IsLoose (w : Content) (v : ℕ) : Type 0 where
  pub sound : IsSound w
  pub half : w.half ≡ None
  pub sweeping : w.sweeping ≡ true
  pub uncounted : (s : ℕ) → w.pinned s ≡ false → w.count s ≡ 0
  pub named : (s : ℕ) → IsUsed w s → is_node_of v (w.word s) ≡ false → IsPermanent w s ⊎ ((w.pinned s ≡ true) ⊎ IsNamedByStaying w w.pinned v s)

-- The nodes of this variable in slots before this one that nothing holds up are free, all others as they were.
pub record Passing (others : (ℕ → ℕ) → (ℕ → ℕ) → Type 0) (start : Content) (v : ℕ) (now : Content) (from : ℕ) : Type 0 where
  pub orders : now.orders ≡ start.orders
  pub limit : now.limit ≡ start.limit
  pub pinned : now.pinned ≡ start.pinned
  pub sweeping : now.sweeping ≡ start.sweeping
  pub half : now.half ≡ start.half
  pub counts : others start.count now.count
  pub sound : IsSound now
  pub less : (s : ℕ) (word : Word) → now.word s ≡ Some word → start.word s ≡ Some word
  pub kept : (s : ℕ) → Stays start start.pinned v s → (now.word s ≡ start.word s) × (now.function s ≡ start.function s) × (now.generation s ≡ start.generation s)
  pub done : (s : ℕ) → s < from → is_node_of v (now.word s) ≡ true → IsHeldUp start start.pinned s

-- a node of the variable is next
pub record PassesSlot (others : (ℕ → ℕ) → (ℕ → ℕ) → Type 0) (start : Content) (v : ℕ) (now : Content) (slot : ℕ) : Type 0 where
  pub loose : IsLoose start v
  pub node : is_node_of v (now.word slot) ≡ true
  pub so_far : Passing others start v now slot
