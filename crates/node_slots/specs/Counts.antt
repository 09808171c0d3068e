-- The count words of a store's slots, and a slot that is freed.
use Rattle.std.specs.Prelude.{◌≡◌, ◌≢◌, ℕ, ◌≤◌, ◌<◌, ◌^◌, List, length, slice_index, slice_set, None, Some}
use Rattle.computed_cache.specs.Entries.{kept_at, without}
use Rattle.edge_bits.specs.declared.words.Node.{Node}
use Rattle.edge_bits.specs.declared.words.Word.TheVariants.{Inner}
use Rattle.node_slots.specs.Stores.{Plain, IsNext, slots}

-- the words that were written are some of the first, and there is room for those of all slots
pub record IsCountTable (words : List ℕ) (slots capacity : ℕ) : Type 0 where
  pub within : length words ≤ slots
  pub few : slots < 2 ^ 32
  pub room : slots ≤ capacity

-- nothing but the count word of a slot is another
abbrev pub IsRecounted : Plain → ℕ → Plain → Type 0
IsRecounted old slot new = new ≡ record old { counts = slice_set old.counts slot (slice_index new.counts slot) }

-- no node names the slot
abbrev pub IsUnnamed : Plain → ℕ → Type 0
IsUnnamed p slot = (s : ℕ) (node : Node) → slots p s ≡ Some (Inner node) → (node.hi ≢ slot) × (node.lo.index ≢ slot)

-- the slot is free, in its next generation, no kept answer names it, and nothing is due
pub record IsFreed (old : Plain) (slot : ℕ) (new : Plain) : Type 0 where
  pub free : slots new slot ≡ None
  pub next : IsNext (slice_index old.counts slot) (slice_index new.counts slot)
  pub forgotten : (i : ℕ) → kept_at new.memo i ≡ without slot (kept_at old.memo i)
  pub rest : new ≡ record old { words = slice_set old.words slot 0; counts = slice_set old.counts slot (slice_index new.counts slot); due = None; memo = new.memo }
