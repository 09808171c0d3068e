-- How many arcs lead to each slot of a store.
use Rattle.std.specs.Prelude.{◌≡◌, ℕ, ◌+◌, ◌<◌, ◌≤◌, ◌^◌, ◌==◌, ◌⊎◌, Bool, true, if◌then◌else◌, List, length, slice_index, Option, Some, None}
use Rattle.std.specs.List.{sum_by}
use Rattle.edge_bits.specs.declared.words.Node.{Node}
use Rattle.edge_bits.specs.declared.words.Word.{Word}
use Rattle.edge_bits.specs.declared.words.Word.TheVariants.{Inner, Leaf}
use Rattle.edge_bits.specs.Words.{unpack_of}

-- of one word: a node has one to its then child and one to its else child
abbrev pub arcs_of : Option Word → ℕ → ℕ
arcs_of None slot = 0
arcs_of (Some (Leaf value)) slot = 0
arcs_of (Some (Inner node)) slot = (if node.hi == slot then 1 else 0) + (if node.lo.index == slot then 1 else 0)

-- of the bits of a word
abbrev pub arcs_in : ℕ → ℕ → ℕ
arcs_in slot bits = arcs_of (unpack_of bits) slot

-- of all words
unfoldable pub arcs_to : List ℕ → ℕ → ℕ
arcs_to words slot = sum_by (arcs_in slot) words

-- a node names the slot
abbrev pub IsNamedIn : List ℕ → ℕ → Type 0
IsNamedIn words slot = (t : ℕ) × (node : Node) × (unpack_of (slice_index words t) ≡ Some (Inner node)) × ((node.hi ≡ slot) ⊎ (node.lo.index ≡ slot))

-- the counts of so many slots, and whether they are those of the words
pub record Arcs : Type 0 where
  pub slots : ℕ
  pub known : Bool
  pub counts : List ℕ

-- where they are known, they are those of these words
abbrev pub IsOf : Arcs → List ℕ → Type 0
IsOf arcs words = arcs.known ≡ true → (slot : ℕ) → slot < arcs.slots → slice_index arcs.counts slot ≡ arcs_to words slot

-- these are the words of the first slots, and the others have none
abbrev pub AreFirst : List ℕ → List ℕ → Type 0
AreFirst words all = (slot : ℕ) → slice_index words slot ≡ slice_index all slot

-- a slot of these words has this one, and where the arcs are known they are those of the words
pub record IsChange (arcs : Arcs) (words : List ℕ) (slot was : ℕ) : Type 0 where
  pub within : slot < length words
  pub word : slice_index words slot ≡ was
  pub few : length words < 2 ^ 23
  pub known : IsOf arcs words

-- the counts that were written are some of the first, and there is room for those of all slots
pub record AreRoomy (counts : List ℕ) (slots capacity : ℕ) : Type 0 where
  pub within : length counts ≤ slots
  pub few : slots < 2 ^ 23
  pub room : slots ≤ capacity
