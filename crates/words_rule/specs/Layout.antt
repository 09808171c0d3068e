-- Where each word stands, and the words by what they are.
use Rattle.std.specs.Prelude.{◌≡◌, ℕ, zero, suc, ◌+◌, ◌-◌, ◌*◌, ◌/◌, ◌%◌, ◌^◌, ◌<◌, nat_lt, if◌then◌else◌, List, length, slice_index}
use Rattle.edge_bits.specs.Words.{unpack_of}
use Rattle.edge_bits.specs.Mixing.{scattered}
use Rattle.function_laws.specs.Kinds.{Denoted}
use Rattle.function_laws.specs.Sizes.{Orders}
use Rattle.function_laws.specs.SiftedOrders.{place_of}
use Rattle.std.specs.Prelude as std
use Rattle.node_store.specs.Contents.{Content, Pair}
use Rattle.words_rule.specs.Chains.{Lists}

pub record Shape : Type 0 where
  pub variables : ℕ
  pub elements : ℕ
  pub slots : ℕ

-- variables and elements; with the leaves
abbrev pub places : Shape → ℕ
places z = z.variables + z.elements

abbrev pub levels : Shape → ℕ
levels z = z.variables + z.elements + 1

-- The heads: the least power of two that is at least 64 and at least half of the slots, found by doubling.
unfoldable pub head_bits : ℕ → ℕ → ℕ
head_bits zero slots = 6
head_bits (suc k) slots = if nat_lt (2 ^ head_bits k slots * 2) slots then suc (head_bits k slots) else head_bits k slots

abbrev pub heads : Shape → ℕ
heads z = 2 ^ head_bits 18 z.slots

-- the head of a node word, from the hash of all its bits
abbrev pub head_of : Shape → ℕ → ℕ
head_of z bits = scattered bits (heads z)

-- the words: journal, phase, the turns of the board and of the free list, the number of sessions, the turn of the computed table; turns; orders and levels; node and next word of each slot side by side; counts; heads
abbrev pub turn_at : ℕ → ℕ
turn_at l = 6 + l

abbrev pub order_at : Shape → ℕ → ℕ
order_at z p = 7 + (z.variables + z.elements) + p

abbrev pub node_at : Shape → ℕ → ℕ
node_at z s = 7 + (z.variables + z.elements) + (z.variables + z.elements) + (z.variables + z.elements) + s * 2

abbrev pub next_at : Shape → ℕ → ℕ
next_at z s = 8 + (z.variables + z.elements) + (z.variables + z.elements) + (z.variables + z.elements) + s * 2

abbrev pub count_at : Shape → ℕ → ℕ
count_at z s = 7 + (z.variables + z.elements) + (z.variables + z.elements) + (z.variables + z.elements) + z.slots * 2 + s

abbrev pub head_at : Shape → ℕ → ℕ
head_at z h = 7 + (z.variables + z.elements) + (z.variables + z.elements) + (z.variables + z.elements) + z.slots * 3 + h

abbrev pub word_count : Shape → ℕ
word_count z = 7 + (z.variables + z.elements) + (z.variables + z.elements) + (z.variables + z.elements) + z.slots * 3 + heads z

-- so many words, the first at this index
abbrev pub area : (ℕ → ℕ) → ℕ → List ℕ → ℕ → ℕ
area at len ws k = if nat_lt k len then slice_index ws (at k) else 0

pub record Words : Type 0 where
  pub journal : ℕ
  pub phase : ℕ
  pub board_turn : ℕ
  pub free_turn : ℕ
  pub memo_turn : ℕ
  pub turn : ℕ → ℕ
  pub order : ℕ → ℕ
  pub node : ℕ → ℕ
  pub count : ℕ → ℕ
  pub next : ℕ → ℕ
  pub head : ℕ → ℕ

abbrev pub words_of : Shape → List ℕ → Words
words_of z ws = record {
  journal = slice_index ws 0;
  phase = slice_index ws 1;
  board_turn = slice_index ws 2;
  free_turn = slice_index ws 3;
  memo_turn = slice_index ws 5;
  turn = area turn_at (levels z) ws;
  order = area (order_at z) (places z + places z) ws;
  node = area (node_at z) z.slots ws;
  count = area (count_at z) z.slots ws;
  next = area (next_at z) z.slots ws;
  head = area (head_at z) (heads z) ws;
}

-- what stands at a position of both orders: the elements by their own numbers, behind the variables
abbrev pub item_at : Shape → Orders → ℕ → ℕ
item_at z orders p = if nat_lt p z.variables then slice_index orders.variables p else slice_index orders.elements (p - z.variables)

-- the level of a variable, or of an element behind the variables
abbrev pub level_entry : Shape → Orders → ℕ → ℕ
level_entry z orders i = if nat_lt i z.variables then place_of i orders.variables else place_of (i - z.variables) orders.elements

-- the positions, and behind them the levels
abbrev pub entry_at : Shape → Orders → ℕ → ℕ
entry_at z orders p = if nat_lt p (places z) then item_at z orders p else level_entry z orders (p - places z)

-- The order words are the orders and the levels in them, but for those that are still to be stored.
pub record Positions (z : Shape) (order : ℕ → ℕ) (orders : Orders) (pending : List ℕ) : Type 0 where
  pub variables_long : length orders.variables ≡ z.variables
  pub elements_long : length orders.elements ≡ z.elements
  pub at : (p : ℕ) → p < places z + places z → (Lists pending p → ⊥) → order p ≡ entry_at z orders p

-- the store that the words are, with what each slot denotes
abbrev pub content_of : Shape → (ℕ → ℕ) → Orders → (ℕ → std.Option Denoted) → std.Option Pair → Content
content_of z node orders function half = record {
  orders = orders;
  limit = z.slots;
  word = λ s. unpack_of (node s);
  function = function;
  count = λ s. 0;
  generation = λ s. 0;
  marked = λ s. std.false;
  pinned = λ s. std.false;
  sweeping = std.true;
  half = half;
}
