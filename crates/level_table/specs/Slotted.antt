-- The words of a store's slots, and the buckets by which they are found.
use Rattle.std.specs.Prelude.{◌≡◌, ℕ, ◌-◌, ◌^◌, ◌<◌, ◌≤◌, ◌&&◌, ◌++◌, Bool, if◌then◌else◌, nat_lt, nat_le, List, length, replicate, slice_index}
use Rattle.edge_bits.specs.Mixing.{scattered}
use Rattle.edge_bits.specs.Permanent.{zero_slot}
use Rattle.level_table.specs.Chains.{IsChained}

-- what a table of slots is seen as: the word of each slot, 0 where it is free, and how many slots were ever taken
pub record Slotted : Type 0 where
  pub words : List ℕ
  pub taken : ℕ

-- the words of the slots that were taken, and 0 for each of the others
abbrev pub padded : ℕ → List ℕ → List ℕ
padded slots words = words ++ replicate (slots - length words) 0

-- the bucket of a word, of so many
abbrev pub bucket_of_word : ℕ → ℕ → ℕ
bucket_of_word bits buckets = scattered bits buckets

-- whether a slot is found by its word: it has one, and isn't told by its number
abbrev pub is_found : List ℕ → ℕ → Bool
is_found words s = nat_le zero_slot s && nat_lt 0 (slice_index words s)

-- the bucket of a slot, which is none of them where the slot isn't found
unfoldable pub bucket_in : List ℕ → ℕ → ℕ → ℕ
bucket_in words buckets s = if is_found words s then bucket_of_word (slice_index words s) buckets else buckets

-- each slot that is found is in the chain of its word's bucket
pub record AreSlots (words links heads : List ℕ) : Type 0 where
  pub as_long : length links ≡ length words
  pub few : length words < 2 ^ 32
  pub some : 0 < length heads
  pub few_buckets : length heads < 2 ^ 32
  pub chained : IsChained (bucket_in words (length heads)) heads links

-- they are, and there is room for the words and the links of all slots
pub record IsSlotTable (words links heads : List ℕ) (slots word_room link_room : ℕ) : Type 0 where
  pub are : AreSlots words links heads
  pub within : length words ≤ slots
  pub few_slots : slots < 2 ^ 32
  pub words_fit : slots ≤ word_room
  pub links_fit : slots ≤ link_room
