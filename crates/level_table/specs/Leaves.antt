-- The unique table of the leaves as a finite map, from a leaf's value to its slot.
use Rattle.std.specs.Prelude.{◌≡◌, ℕ, ◌+◌, ◌*◌, ◌/◌, ◌%◌, ◌^◌, ◌<◌, ◌≤◌, Bool, List, length, map, find, option_map, swap_remove, slice_index_or, Option, AllPairs, ℤ}
use Rattle.std.specs.Ordering.{int_eq}
use Rattle.std.specs.Int.{w64, cast_unsigned}
use Rattle.level_table.specs.declared.leaves.LeafEntry.{LeafEntry}
use Rattle.level_table.specs.Chains.{Hashed}

-- what a table is seen as: its entries in order, and how many more fit without memory
pub record Leaves : Type 0 where
  pub entries : List LeafEntry
  pub spare : ℕ

-- the entry is that of this value
abbrev pub IsOfValue : ℤ → LeafEntry → Type 0
IsOfValue v e = e.value ≡ v

abbrev pub is_of_value : ℤ → LeafEntry → Bool
is_of_value v e = int_eq e.value v

-- the slot that the table holds at a value
abbrev pub slot_at_value : List LeafEntry → ℤ → Option ℕ
slot_at_value entries v = option_map (λ e. e.slot) (find (is_of_value v) entries)

-- no entry is of this value
abbrev pub IsAbsentValue : List LeafEntry → ℤ → Type 0
IsAbsentValue entries v = (k : ℕ) (d : LeafEntry) → k < length entries → IsOfValue v (slice_index_or entries k d) → ⊥

-- no two entries have the same value
abbrev pub AreApartValues : List LeafEntry → Type 0
AreApartValues entries = AllPairs (λ e f. IsOfValue e.value f → ⊥) entries

-- the table without the entry of a value: the last one takes its place
pub record IsWithoutValue (old : Leaves) (v : ℤ) (new : Leaves) : Type 0 where
  pub place : ℕ
  pub within : place < length old.entries
  pub here : (d : LeafEntry) → IsOfValue v (slice_index_or old.entries place d)
  pub entries : (d : LeafEntry) → new.entries ≡ swap_remove old.entries place d
  pub spare : new.spare ≡ old.spare + 1

-- the hash of a value: multiplicative (Knuth 1973)
abbrev pub hash_of_value : ℤ → ℕ
hash_of_value v = cast_unsigned w64 v * 11400714819323198485 % 2 ^ 64 / 2 ^ 32

-- the entries are apart, and the chains have their hashes
pub record IsLeafTable (entries : List LeafEntry) (capacity : ℕ) (chains : Hashed) (spare : ℕ) : Type 0 where
  pub hashes : chains.hashes ≡ map (λ e. hash_of_value e.value) entries
  pub apart : AreApartValues entries
  pub few : length entries < 2 ^ 32
  pub room : length entries + spare ≤ capacity
  pub chain_room : spare ≤ chains.spare
