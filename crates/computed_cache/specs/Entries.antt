-- The entries of a computed table, and the two words of each.
use Rattle.std.specs.Prelude.{◌≡◌, ℕ, ◌+◌, ◌*◌, ◌/◌, ◌%◌, ◌^◌, ◌<◌, ◌⊎◌, ◌==◌, ◌||◌, Bool, true, if◌then◌else◌, List, length, slice_index, Option, Some, None}
use Rattle.edge_bits.specs.Mixing.{scattered, spread}
use Rattle.edge_bits.specs.Words.{edge_of_word, word_of_edge}
use Rattle.edge_bits.specs.declared.edges.Edge.{Edge}
use Rattle.computed_cache.specs.declared.Key.{Key}

-- an answer with what it is kept under
pub record Kept : Type 0 where
  pub key : Key
  pub edge : Edge

-- the parts fit their bits
pub record IsInRange (key : Key) : Type 0 where
  pub some : 0 < key.op
  pub few : key.op < 2 ^ 6
  pub f : key.f.index < 2 ^ 23
  pub g : key.g.index < 2 ^ 23
  pub h : key.h.index < 2 ^ 23

-- the first word, 63..58: the operation; 57..34 and 33..10: the edges f and g; it is 0 where there is no entry
abbrev pub key_word : Key → ℕ
key_word key = key.op * 2 ^ 58 + word_of_edge key.f * 2 ^ 34 + word_of_edge key.g * 2 ^ 10

-- the second word, 47..24 and 23..0: the edge h and the answer
abbrev pub answer_word : Key → Edge → ℕ
answer_word key e = word_of_edge key.h * 2 ^ 24 + word_of_edge e

abbrev pub key_in : ℕ → ℕ → Key
key_in first second = record { op = first / 2 ^ 58; f = edge_of_word (first / 2 ^ 34 % 2 ^ 24); g = edge_of_word (first / 2 ^ 10 % 2 ^ 24); h = edge_of_word (second / 2 ^ 24) }

-- what two words say
abbrev pub kept_in : ℕ → ℕ → Option Kept
kept_in first second = if first == 0 then None else Some (record { key = key_in first second; edge = edge_of_word (second % 2 ^ 24) })

-- which entry stands at a place of the words
abbrev pub kept_at : List ℕ → ℕ → Option Kept
kept_at words i = kept_in (slice_index words (2 * i)) (slice_index words (2 * i + 1))

-- how many entries the words have room for
abbrev pub places : List ℕ → ℕ
places words = length words / 2

-- the place of a first word and an edge h, of so many
unfoldable pub place_at : ℕ → ℕ → ℕ → ℕ
place_at first h places = scattered ((first + spread h) % 2 ^ 64) places

-- the one place where an answer under this key may stand
abbrev pub place_of : Key → ℕ → ℕ
place_of key places = place_at (key_word key) (word_of_edge key.h) places

-- whether an entry names a slot
abbrev pub names : ℕ → Kept → Bool
names slot kept = (kept.key.f.index == slot) || (kept.key.g.index == slot) || (kept.key.h.index == slot) || (kept.edge.index == slot)

-- the entry, unless it names the slot
abbrev pub without : ℕ → Option Kept → Option Kept
without slot None = None
without slot (Some kept) = if names slot kept then None else Some kept

-- no entry, or the two words of one
abbrev pub IsEntry : ℕ → ℕ → Type 0
IsEntry first second = (first ≡ 0) ⊎ ((first % 2 ^ 10 ≡ 0) × (second < 2 ^ 48))

-- the words are those of so many entries, and all are 0 where none was put
pub record IsMemo (words : List ℕ) (places : ℕ) (is_empty : Bool) : Type 0 where
  pub twice : length words ≡ 2 * places
  pub some : 0 < places
  pub few : places < 2 ^ 32
  pub entries : (i : ℕ) → IsEntry (slice_index words (2 * i)) (slice_index words (2 * i + 1))
  pub empty : is_empty ≡ true → (i : ℕ) → slice_index words (2 * i) ≡ 0
