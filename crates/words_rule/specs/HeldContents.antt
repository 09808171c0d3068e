-- What the holder of the order knows of the store, once it has learnt all of it.
use Rattle.std.specs.Prelude.{◌≡◌, ℕ, ◌==◌, ◌<◌, ◌≤◌, if◌then◌else◌, List, [], ◌∷◌, Option, Some, None, length}
use Rattle.function_laws.specs.declared.history.Function.{Function}
use Rattle.edge_bits.specs.Reading.{plain}
use Rattle.node_store.specs.Contents.{Content, IsSound}
use Rattle.words_rule.specs.declared.view.Held.{Held}
use Rattle.words_rule.specs.declared.view.SeenWord.{SeenWord}
use Rattle.words_rule.specs.declared.view.SlotCount.{SlotCount}
use Rattle.words_rule.specs.declared.view.SlotGeneration.{SlotGeneration}
use Rattle.words_rule.specs.declared.view.View.{View}
use Rattle.words_rule.specs.Halves.{half_in}
use Rattle.words_rule.specs.Known.{is_among, noted_bits, noted_content}
use Rattle.words_rule.specs.Tallies.{refs, tally_of, times}

-- the newest note of a slot's count, and of its generation
abbrev pub noted_count : List SlotCount → ℕ → Option ℕ
noted_count [] s = None
noted_count (note ∷ notes) s = if note.slot == s then Some note.count else noted_count notes s

abbrev pub noted_age : List SlotGeneration → ℕ → Option ℕ
noted_age [] s = None
noted_age (note ∷ notes) s = if note.slot == s then Some note.generation else noted_age notes s

abbrev pub or_zero : Option ℕ → ℕ
or_zero (Some n) = n
or_zero None = 0

-- the bits of a slot's word
abbrev pub held_bits : View → ℕ → ℕ
held_bits v s = or_zero (noted_bits v.known.words s)

-- all words, functions, counts, generations and pins that it noted, and the swap that it makes
abbrev pub held_content : View → Content
held_content v = record (noted_content v) {
  count = λ s. or_zero (noted_count v.work.counts s);
  generation = λ s. or_zero (noted_age v.known.ages s);
  pinned = is_among v.counts.pins;
  half = half_in v.known;
}

-- It knows the whole store.
pub record KnowsAll (v : View) : Type 0 where
  pub sound : IsSound (held_content v)
  -- both orders have all variables and all elements
  pub long : (length v.known.variable_order ≡ v.draws.vars) × (length v.known.element_order ≡ v.draws.elements)
  -- the word and the generation of each slot are noted, and those of no other
  pub noted : (s : ℕ) → s < v.draws.slots → (bits : ℕ) × (noted_bits v.known.words s ≡ Some bits) × (bits < 18446744073709551616)
  pub beyond : (s : ℕ) → v.draws.slots ≤ s → noted_bits v.known.words s ≡ None
  pub aged : (s : ℕ) → s < v.draws.slots → (generation : ℕ) × (noted_age v.known.ages s ≡ Some generation)
  -- a count that it knows as 0 was found so, and the seat has nothing of the slot but its pin
  pub zeros : (s : ℕ) → s < v.draws.slots → or_zero (noted_count v.work.counts s) ≡ 0 → 0 < times s v.counts.zeros
  pub own : (s : ℕ) → 0 < times s v.counts.zeros → refs s (tally_of v) ≡ times s v.counts.pins
  pub once : (s : ℕ) → times s v.counts.pins ≤ 1

-- the notes of other slots
abbrev pub words_without : ℕ → List SeenWord → List SeenWord
words_without s [] = []
words_without s (note ∷ notes) = if note.slot == s then words_without s notes else (note ∷ words_without s notes)

abbrev pub seen_without : ℕ → List Held → List Held
seen_without s [] = []
seen_without s (held ∷ notes) = if held.edge.index == s then seen_without s notes else (held ∷ seen_without s notes)

abbrev pub ages_without : ℕ → List SlotGeneration → List SlotGeneration
ages_without s [] = []
ages_without s (note ∷ notes) = if note.slot == s then ages_without s notes else (note ∷ ages_without s notes)

abbrev pub numbers_without : ℕ → List ℕ → List ℕ
numbers_without s [] = []
numbers_without s (x ∷ xs) = if x == s then numbers_without s xs else (x ∷ numbers_without s xs)

-- a slot has this word, this function, this generation, this count
abbrev pub with_word : ℕ → ℕ → List SeenWord → List SeenWord
with_word s bits notes = record { slot = s; bits = bits } ∷ words_without s notes

abbrev pub with_seen : ℕ → Function → List Held → List Held
with_seen s f notes = record { edge = plain s; function = f } ∷ seen_without s notes

abbrev pub with_age : ℕ → ℕ → List SlotGeneration → List SlotGeneration
with_age s generation notes = record { slot = s; generation = generation } ∷ ages_without s notes

abbrev pub with_count : ℕ → ℕ → List SlotCount → List SlotCount
with_count s count notes = record { slot = s; count = count } ∷ notes
