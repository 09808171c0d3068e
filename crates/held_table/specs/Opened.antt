-- A table that was made of a store.
use Rattle.std.specs.Prelude.{◌≡◌, ℕ, ◌<◌, ◌≤◌, Bool, true, false, List, [], length, slice_index, Some, None}
use Rattle.edge_bits.specs.Reading.{slots_of}
use Rattle.edge_bits.specs.declared.words.Word.{Word}
use Rattle.node_store.specs.Contents.{Content}
use Rattle.node_slots.specs.Stores.{Plain, is_set}
use Rattle.node_slots.specs.Wholes.{content_view}
use Rattle.step_store.specs.Chains.{Chains, Lists, Once, head_of}
use Rattle.held_table.specs.Tables.{stacked}

-- the slots with a word, from 3 on and below this one, are on the chains of their heads
pub record AreLinked (heads nexts words : List ℕ) (upto : ℕ) : Type 0 where
  pub on : ℕ → Bool
  pub chain : ℕ → List ℕ
  pub chains : Chains (length heads) (slice_index heads) (slice_index nexts) (head_of (length heads)) (slice_index words) on chain
  pub on_used : (s : ℕ) → on s ≡ true → (3 ≤ s) × (s < upto) × (word : Word) × (slots_of words s ≡ Some word)
  pub complete : (s : ℕ) (word : Word) → 3 ≤ s → s < upto → slots_of words s ≡ Some word → on s ≡ true

-- the slots without a word below this one, each once
pub record AreAllFree (words : List ℕ) (upto : ℕ) (freed : List ℕ) : Type 0 where
  pub free : (s : ℕ) → Lists (stacked freed []) s → (s < upto) × (slots_of words s ≡ None)
  pub once : Once (stacked freed [])
  pub all : (s : ℕ) → s < upto → slots_of words s ≡ None → Lists (stacked freed []) s
  pub few : length freed ≤ upto

-- what the holder of the table knows: the store's content, with no pin, in the first generation of each slot
abbrev pub opened_of : Plain → Content
opened_of p = record (content_view p) { generation = λ _. 0; marked = is_set []; pinned = λ _. false; sweeping = true }
