-- The unique table of one variable as a finite map, from the pair of a node's children to its slot.
use Rattle.std.specs.Prelude.{◌≡◌, ℕ, ◌+◌, ◌*◌, ◌/◌, ◌%◌, ◌^◌, ◌<◌, ◌≤◌, ◌==◌, ◌&&◌, Bool, List, length, map, find, option_map, swap_remove, slice_index_or, Option, AllPairs}
use Rattle.std.specs.Bool.{beq}
use Rattle.edge_bits.specs.Words.{word_of_edge}
use Rattle.edge_bits.specs.declared.edges.Edge.{Edge}
use Rattle.level_table.specs.declared.table.Entry.{Entry}
use Rattle.level_table.specs.Chains.{Hashed}

-- what a table is seen as: its entries in order, and how many more fit without memory
pub record Table : Type 0 where
  pub entries : List Entry
  pub spare : ℕ

-- the entry is that of this pair
abbrev pub IsOf : ℕ → Edge → Entry → Type 0
IsOf hi lo e = (e.hi ≡ hi) × (e.lo ≡ lo)

abbrev pub is_of : ℕ → Edge → Entry → Bool
is_of hi lo e = (e.hi == hi) && ((e.lo.index == lo.index) && beq e.lo.complement lo.complement)

-- the slot that the table holds at a pair
abbrev pub slot_at : List Entry → ℕ → Edge → Option ℕ
slot_at entries hi lo = option_map (λ e. e.slot) (find (is_of hi lo) entries)

-- no entry is of this pair
abbrev pub IsAbsent : List Entry → ℕ → Edge → Type 0
IsAbsent entries hi lo = (k : ℕ) (d : Entry) → k < length entries → IsOf hi lo (slice_index_or entries k d) → ⊥

-- no two entries have the same pair
abbrev pub AreApart : List Entry → Type 0
AreApart entries = AllPairs (λ e f. IsOf e.hi e.lo f → ⊥) entries

-- the table without the entry of a pair: the last one takes its place
pub record IsWithout (old : Table) (hi : ℕ) (lo : Edge) (new : Table) : Type 0 where
  pub place : ℕ
  pub within : place < length old.entries
  pub here : (d : Entry) → IsOf hi lo (slice_index_or old.entries place d)
  pub entries : (d : Entry) → new.entries ≡ swap_remove old.entries place d
  pub spare : new.spare ≡ old.spare + 1

-- the hash of a pair: multilinear (Dietzfelbinger 1996)
abbrev pub hash_of : ℕ → Edge → ℕ
hash_of hi lo = (hi * 11400714819323198485 % 2 ^ 64 + word_of_edge lo * 14029467366897019727 % 2 ^ 64) % 2 ^ 64 / 2 ^ 32

-- the entries are apart, and the chains have their hashes
pub record IsTable (entries : List Entry) (capacity : ℕ) (chains : Hashed) (spare : ℕ) : Type 0 where
  pub hashes : chains.hashes ≡ map (λ e. hash_of e.hi e.lo) entries
  pub apart : AreApart entries
  pub few : length entries < 2 ^ 32
  pub room : length entries + spare ≤ capacity
  pub chain_room : spare ≤ chains.spare
