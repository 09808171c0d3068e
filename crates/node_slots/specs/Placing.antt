-- Where a word comes to stand.
use Rattle.std.specs.Prelude.{◌≡◌, ℕ, ◌<◌, ◌≤◌, List, length, slice_set, Some, None, ◌⊎◌}
use Rattle.edge_bits.specs.declared.edges.Edge.{Edge}
use Rattle.edge_bits.specs.declared.edges.Kind.{Kind}
use Rattle.edge_bits.specs.declared.words.Word.{Word}
use Rattle.edge_bits.specs.Permanent.{empty_slot, first_element}
use Rattle.edge_bits.specs.Words.{unpack_of}
use Rattle.edge_bits.specs.Reading.{slots_of}
use Rattle.function_laws.specs.Kinds.{function_of}
use Rattle.node_store.specs.Views.{CanMake, node_values}
use Rattle.node_slots.specs.Stores.{Plain, IsUnknown, plain_view}

-- the word stood there
pub record WasThere (old new : List ℕ) (word : Word) (s : ℕ) : Type 0 where
  pub high : 3 ≤ s
  pub here : slots_of old s ≡ Some word
  pub same : new ≡ old

-- it stood nowhere, and stands now where no word stood
pub record IsWritten (old new : List ℕ) (word : Word) (s : ℕ) : Type 0 where
  pub absent : (t : ℕ) → 3 ≤ t → slots_of old t ≡ Some word → ⊥
  pub free : slots_of old s ≡ None
  pub bits : ℕ
  pub reads : unpack_of bits ≡ Some word
  pub is : new ≡ slice_set old s bits

pub record IsPlaced (old new : List ℕ) (word : Word) (s : ℕ) : Type 0 where
  pub within : s < length old
  pub way : WasThere old new word s ⊎ IsWritten old new word s

-- the word stands nowhere, and each slot has a word
pub record HasNoPlace (old new : List ℕ) (word : Word) : Type 0 where
  pub absent : (t : ℕ) → 3 ≤ t → slots_of old t ≡ Some word → ⊥
  pub full : (t : ℕ) → t < length old → slots_of old t ≡ None → ⊥
  pub same : new ≡ old

abbrev pub IsUnknownNode : Plain → ℕ → Edge → Edge → Type 0
IsUnknownNode p v hi lo = (k : Kind) → CanMake k (plain_view p) v hi lo → IsUnknown p (function_of k (node_values k (plain_view p) v hi lo))

-- the child that a node would be
abbrev pub IsChild : ℕ → Edge → Edge → Edge → Type 0
IsChild v hi lo e = ((v < first_element) × (hi ≡ lo) × (e ≡ hi)) ⊎ ((first_element ≤ v) × (hi.index ≡ empty_slot) × (e ≡ lo))

pub record HasNoChild (v : ℕ) (hi lo : Edge) : Type 0 where
  pub differ : v < first_element → hi ≡ lo → ⊥
  pub member : first_element ≤ v → hi.index ≡ empty_slot → ⊥
