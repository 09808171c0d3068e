-- How far the freeing of a sweep has come.
use Rattle.std.specs.Prelude.{◌≡◌, ℕ, true, false, ◌⊎◌, Option, Some, None}
use Rattle.edge_bits.specs.declared.words.Node.{Node}
use Rattle.edge_bits.specs.declared.words.Word.{Word}
use Rattle.edge_bits.specs.declared.words.Word.TheVariants.{Inner}
use Rattle.function_laws.specs.Sizes.{Orders}
use Rattle.node_store.specs.Contents.{Content, IsSound, IsPermanent}
use Rattle.node_store.specs.Changes.{next_generation}
use Rattle.dead_sweep.specs.Marks.{rank_of, IsDone}

-- a store after the marking: what is marked is closed under arcs, and what isn't may be freed
pub record Ready (start : Content) : Type 0 where
  pub sound : IsSound start
  pub settled : start.half ≡ None
  pub sweeping : start.sweeping ≡ true
  pub closed : (s : ℕ) (node : Node) → start.word s ≡ Some (Inner node) → start.marked s ≡ true → (start.marked node.hi ≡ true) × (start.marked node.lo.index ≡ true)
  pub dead : (s : ℕ) (word : Word) → start.word s ≡ Some word → start.marked s ≡ false → (start.count s ≡ 0) × (start.pinned s ≡ false) × (IsPermanent start s → ⊥)

-- The slots that are done and unmarked are free, all others as they were.
pub record Freed (others : (ℕ → ℕ) → (ℕ → ℕ) → Type 0) (start now : Content) (rank from : ℕ) : Type 0 where
  pub orders : now.orders ≡ start.orders
  pub limit : now.limit ≡ start.limit
  pub marked : now.marked ≡ start.marked
  pub pinned : now.pinned ≡ start.pinned
  pub sweeping : now.sweeping ≡ start.sweeping
  pub half : now.half ≡ start.half
  pub counts : others start.count now.count
  pub sound : IsSound now
  pub kept : (s : ℕ) (word : Word) → start.word s ≡ Some word → (start.marked s ≡ true) ⊎ (IsDone start.orders rank from s word → ⊥)
      → (now.word s ≡ start.word s) × (now.function s ≡ start.function s) × (now.generation s ≡ start.generation s)
  pub gone : (s : ℕ) (word : Word) → start.word s ≡ Some word → start.marked s ≡ false → IsDone start.orders rank from s word
      → (now.word s ≡ None) × (now.generation s ≡ next_generation (start.generation s))
  pub free : (s : ℕ) → start.word s ≡ None → (now.word s ≡ None) × (now.generation s ≡ start.generation s)

abbrev pub rank_or : Orders → Option Word → ℕ
rank_or o None = 0
rank_or o (Some word) = rank_of o word

abbrev pub slot_rank : Content → ℕ → ℕ
slot_rank w s = rank_or w.orders (w.word s)
