-- The words of a table as its holder has them in hand, and what is counted and noted of them.
use Rattle.std.specs.Prelude.{◌≡◌, ℕ, ◌<◌, ◌≤◌, ◌^◌, Bool, true, false, List, length, Option, Some, None}
use Rattle.std.specs.List.{count_by}
use Rattle.edge_bits.specs.Reading.{slots_of}
use Rattle.held_slots.specs.Arcs.{Arcs, IsOf}
use Rattle.held_slots.specs.Linked.{IsLinkedTo}
use Rattle.held_slots.specs.Notes.{Notes}
use Rattle.node_store.specs.Contents.{Content}
use Rattle.node_slots.specs.Stores.{is_set, is_word}
use Rattle.node_slots.specs.Taking.{AreCounted}
use Rattle.hold_store.specs.Held.{IsReady, Knowledge}

-- the words that were written are some of the first, and there is room for those of all slots
pub record IsWordTable (words : List ℕ) (slots capacity : ℕ) : Type 0 where
  pub within : length words ≤ slots
  pub few : slots < 2 ^ 32
  pub room : slots ≤ capacity

-- the words, how many are in use, those of the nodes of each variable, and the arcs
pub record AreHeldWords (words : List ℕ) (in_use : ℕ) (counts : List ℕ) (arcs : Arcs) : Type 0 where
  pub few : length words < 2 ^ 23
  pub counted : in_use ≡ count_by is_word words
  pub nodes : AreCounted words counts
  pub arcs_fit : arcs.slots ≡ length words
  pub arcs_are : IsOf arcs words

-- the store that the holder knows, as a sweep or a swap sees it, with the marks that it made, and whether a sweep is on
abbrev pub content_of : Knowledge → List ℕ → Bool → Content
content_of k marks sweeping = record k.content { marked = is_set marks; sweeping = sweeping }

-- where a sweep is on the computed table is in hand and has no answers
abbrev pub IsCleared : Bool → Option (ℕ → Bool) → Type 0
IsCleared true named = named ≡ Some (λ _. false)
IsCleared false named = named ≡ None

-- The words in hand are those of the table, and the notes are of these.
pub record AreNoted (k : Knowledge) (words : List ℕ) (notes : Notes) : Type 0 where
  pub words_are : slots_of words ≡ k.content.word
  pub long : length words ≡ k.content.limit
  pub marks_fit : length notes.marks ≡ k.content.limit
  pub pins_fit : length notes.pins ≡ k.content.limit
  pub pins_are : is_set notes.pins ≡ k.content.pinned
  pub linked : IsLinkedTo (slots_of words) notes.chain

pub record IsHolding (k : Knowledge) (words : List ℕ) (notes : Notes) (sweeping : Bool) : Type 0 where
  pub ready : IsReady k
  pub memo : IsCleared sweeping k.hand.named
  pub noted : AreNoted k words notes
