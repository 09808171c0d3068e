-- Which slots of a store are free, and which of them are taken next.
use Rattle.std.specs.Prelude.{◌≡◌, ◌≢◌, ℕ, ◌+◌, ◌<◌, ◌≤◌, ◌^◌, ◌⊎◌, Bool, List, length, slice_index, slice_set, Some}
use Rattle.std.specs.List.{count_by}
use Rattle.edge_bits.specs.declared.words.Word.{Word}
use Rattle.edge_bits.specs.Words.{pack_of, unpack_of}
use Rattle.held_slots.specs.Arcs.{Arcs, IsOf}
use Rattle.level_table.specs.Slotted.{Slotted}
use Rattle.node_store.specs.Contents.{is_node_of as is_node_in}
use Rattle.node_slots.specs.Stores.{is_word}

-- the bits are 0, or those of a node or a leaf
abbrev pub IsFreeOrPacked : ℕ → Type 0
IsFreeOrPacked bits = (bits ≡ 0) ⊎ ((word : Word) × (bits ≡ pack_of word) × (unpack_of bits ≡ Some word))

abbrev pub ArePacked : List ℕ → Type 0
ArePacked words = (s : ℕ) → IsFreeOrPacked (slice_index words s)

-- The slots without a word are those on the stack of the freed ones, each once, and those that were never taken.
pub record AreFree (words : List ℕ) (taken : ℕ) (freed : List ℕ) : Type 0 where
  pub within : taken ≤ length words
  pub beyond : (s : ℕ) → taken ≤ s → slice_index words s ≡ 0
  pub freed_are : (i : ℕ) → i < length freed → (slice_index freed i < taken) × (slice_index words (slice_index freed i) ≡ 0)
  pub once : (i j : ℕ) → i < j → j < length freed → slice_index freed i ≢ slice_index freed j
  pub all : (s : ℕ) → s < taken → slice_index words s ≡ 0 → (i : ℕ) × (i < length freed) × (slice_index freed i ≡ s)

-- whether the bits are those of a node of this variable, or of an element by first_element and its number
abbrev pub is_node_of : ℕ → ℕ → Bool
is_node_of v bits = is_node_in v (unpack_of bits)

-- how many slots have a node of the variable
abbrev pub nodes_of : List ℕ → ℕ → ℕ
nodes_of words v = count_by (is_node_of v) words

-- the numbers of nodes, for each variable that a word has room for
pub record AreCounted (words counts : List ℕ) : Type 0 where
  pub all : length counts ≡ 2 ^ 15
  pub each : (v : ℕ) → slice_index counts v ≡ nodes_of words v

-- the words with the stack of the freed slots, which has room for as many as there are slots, the number of slots in use, and those of the nodes of each variable
pub record IsNodeTable (table : Slotted) (freed : List ℕ) (capacity in_use : ℕ) (counts : List ℕ) (arcs : Arcs) : Type 0 where
  pub packed : ArePacked table.words
  pub free : AreFree table.words table.taken freed
  pub few : length table.words < 2 ^ 23
  pub room : length table.words ≤ capacity
  pub counted : in_use ≡ count_by is_word table.words
  pub as_many : length freed + in_use ≡ table.taken
  pub nodes : AreCounted table.words counts
  pub arcs_fit : arcs.slots ≡ length table.words
  pub arcs_are : IsOf arcs table.words

-- the word came to stand in a slot without one
abbrev pub IsPut : List ℕ → List ℕ → ℕ → ℕ → Type 0
IsPut old new bits s = (s < length old) × (slice_index old s ≡ 0) × (new ≡ slice_set old s bits)

-- each slot has a word
abbrev pub HasNoZero : List ℕ → Type 0
HasNoZero words = (s : ℕ) → s < length words → slice_index words s ≡ 0 → ⊥
