-- A table of words with one holder, who knows all of it.
use Rattle.std.specs.Prelude.{◌≡◌, ◌⊎◌, ℕ, ◌+◌, ◌-◌, ◌<◌, ◌≤◌, Bool, true, false, if◌then◌else◌, List, [], ◌∷◌, ◌++◌, length, slice_index, vec_capacity, Option, Some, None, option_map}
use Rattle.std.specs.List.{range_with_len}
use Rattle.edge_bits.specs.declared.words.Word.{Word}
use Rattle.node_store.specs.Contents.{Content, IsSound, Pair}
use Rattle.node_store.specs.Changes.{pair_of}
use Rattle.node_slots.specs.Stores.{Plain, slots}
use Rattle.node_slots.specs.Wholes.{content_view}
use Rattle.step_store.specs.declared.hand.Chain.{Chain}
use Rattle.step_store.specs.declared.hand.Link.{Link}
use Rattle.step_store.specs.Chains.{Chains, Lists, head_of}
use Rattle.step_store.specs.Knowing.{Walk}
use Rattle.step_store.specs.Plain.{links_along}
use Rattle.hold_store.specs.Held.{Hand, IsFreeList, Knowledge, Pending, down}
use Rattle.held_table.specs.declared.table.Due.{Due}
use Rattle.held_table.specs.declared.table.HeldTable.{HeldTable}
use Rattle.held_table.specs.declared.table.Rewritten.{Rewritten}

-- the store that its words are; how long the orders are is all that is told of levels
abbrev pub plain_of : HeldTable → Plain
plain_of t = record {
  variable_levels = t.variables_at.items;
  element_levels = t.elements_at.items;
  variables_at = t.variables_at.items;
  elements_at = t.elements_at.items;
  words = t.words.items;
  counts = t.counts.items;
  marks = [];
  pins = t.pins.items;
  sweeping = true;
  fulls = 0;
  due = None;
  memo = [];
  scratch_room = 0;
}

abbrev pub half_of : HeldTable → Option Pair
half_of t = option_map (λ (r : Rewritten). pair_of (content_view (plain_of t)) r.was r.now) t.half

abbrev pub view_of : HeldTable → Content
view_of t = record (content_view (plain_of t)) { half = half_of t }

abbrev pub chain_in : HeldTable → ℕ → List ℕ
chain_in t h = links_along t.limit (slice_index t.nexts.items) (slice_index t.heads.items h)

abbrev pub walk_of : HeldTable → Chain → Walk
walk_of t c = record { head = c.head; level = c.level; rest = chain_in t c.head }

-- the numbers of a list before those of another, the last first
abbrev pub stacked : List ℕ → List ℕ → List ℕ
stacked [] tail = tail
stacked (s ∷ ss) tail = stacked ss (s ∷ tail)

-- those that were freed, the last first, and then those that were never taken
abbrev pub free_list : List ℕ → ℕ → ℕ → List ℕ
free_list freed next limit = stacked freed (range_with_len next (limit - next))

abbrev pub free_in : HeldTable → List ℕ
free_in t = free_list t.freed.items t.next_free t.limit

-- the last of those that were freed is taken, or else the next that was never taken
abbrev pub IsWithoutFirst : List ℕ → ℕ → List ℕ → ℕ → Type 0
IsWithoutFirst freed next left from = ((x : ℕ) × (freed ≡ left ++ x ∷ []) × (from ≡ next)) ⊎ ((freed ≡ []) × (left ≡ []) × (from ≡ next + 1))

abbrev pub pending_of : Due → Pending
pending_of d = record { order = d.order; level = d.level }

abbrev pub hand_of : HeldTable → Hand
hand_of t = record {
  levels = down t.turns;
  free = if t.has_free then Some (free_in t) else None;
  loose = t.loose;
  renewed = t.renewed;
  link = t.link;
  walk = option_map (walk_of t) t.walk;
  pending = option_map pending_of t.due;
  named = if t.has_memo then Some (λ _. t.answers) else None;
}

abbrev pub known_of : HeldTable → Knowledge
known_of t = record { content = view_of t; bits = slice_index t.words.items; heads = length t.heads.items; hand = hand_of t }

-- the chains: which slots are on one, and which each head has
pub record AreChained (t : HeldTable) : Type 0 where
  pub on : ℕ → Bool
  pub chain : ℕ → List ℕ
  pub chains : Chains (length t.heads.items) (slice_index t.heads.items) (slice_index t.nexts.items) (head_of (length t.heads.items)) (slice_index t.words.items) on chain
  pub on_used : (s : ℕ) → on s ≡ true → (3 ≤ s) × (word : Word) × (slots (plain_of t) s ≡ Some word)
  pub complete : (s : ℕ) (word : Word) → 3 ≤ s → slots (plain_of t) s ≡ Some word → (on s ≡ true) ⊎ (t.loose ≡ Some s)
  pub loose : (s : ℕ) → t.loose ≡ Some s → (on s ≡ false) × (3 ≤ s) × (word : Word) × (slots (plain_of t) s ≡ Some word)
  pub link : (x : Link) → t.link ≡ Some x → slice_index t.nexts.items x.slot ≡ x.next

-- the words, and how long each list is
pub record AreWords (t : HeldTable) : Type 0 where
  pub as_many : length t.words.items ≡ t.limit
  pub as_many_nexts : length t.nexts.items ≡ t.limit
  pub as_many_counts : length t.counts.items ≡ t.limit
  pub as_many_pins : length t.pins.items ≡ t.limit
  pub some_heads : 0 < length t.heads.items
  pub few_heads : length t.heads.items < 4294967296
  pub fits : (s : ℕ) → slice_index t.words.items s < 18446744073709551616

-- the free slots
pub record AreFree (t : HeldTable) : Type 0 where
  pub list : IsFreeList (view_of t) (free_in t)
  pub first : t.next_free ≤ t.limit
  pub below : (s : ℕ) → Lists t.freed.items s → s < t.next_free
  pub beyond : (s : ℕ) → t.next_free ≤ s → slots (plain_of t) s ≡ None
  pub room : t.limit ≤ vec_capacity t.freed

-- its user may make the steps of a holder
pub record IsTable (t : HeldTable) : Type 0 where
  pub sound : IsSound (view_of t)
  pub words : AreWords t
  pub free : AreFree t
  pub chained : AreChained t
