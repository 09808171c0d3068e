-- What a sweep leaves.
use Rattle.std.specs.Prelude.{◌≡◌, ℕ, ◌+◌, Bool, false, None}
use Rattle.node_store.specs.Contents.{Content, IsSound, IsUsed, used_slots}
use Rattle.node_store.specs.Changes.{next_generation}
use Rattle.node_store.specs.Sweeps.{IsReached, root_functions, full_size}
use Rattle.dead_sweep.specs.declared.sweeping.Swept.{Swept}

-- The roots are the slots whose count was read as above 0.
pub record IsSwept (others : (ℕ → ℕ) → (ℕ → ℕ) → Type 0) (old new : Content) (swept : Swept) : Type 0 where
  pub is_root : ℕ → Bool
  -- one whose count was known to be 0 is none, and the count of one that is none is known to be 0
  pub zero_before : (s : ℕ) → old.count s ≡ 0 → old.pinned s ≡ false → is_root s ≡ false
  pub zero_after : (s : ℕ) → is_root s ≡ false → (new.count s ≡ 0) × (new.pinned s ≡ false)
  -- what is reached is as it was, and nothing else is in use
  pub kept_word : (s : ℕ) → IsReached old is_root s → new.word s ≡ old.word s
  pub kept_function : (s : ℕ) → IsReached old is_root s → new.function s ≡ old.function s
  pub left : (s : ℕ) → IsUsed new s → IsReached old is_root s
  -- a slot that was freed has the next generation, all others theirs
  pub freed_generation : (s : ℕ) → IsUsed old s → new.word s ≡ None → new.generation s ≡ next_generation (old.generation s)
  pub kept_generation : (s : ℕ) → new.word s ≡ old.word s → new.generation s ≡ old.generation s
  pub orders : new.orders ≡ old.orders
  pub limit : new.limit ≡ old.limit
  pub pinned : new.pinned ≡ old.pinned
  pub sweeping : new.sweeping ≡ false
  pub half : new.half ≡ None
  pub counts : others old.count new.count
  pub sound : IsSound new
  -- the numbers
  pub in_use : swept.in_use ≡ used_slots new
  pub freed : swept.freed + used_slots new ≡ used_slots old
  pub size : used_slots new ≡ full_size old.orders (root_functions old is_root)
