-- The words of a table to be opened, as they are written one kind after another.
use Rattle.std.specs.Prelude.{◌≡◌, ◌⊎◌, ℕ, ◌+◌, ◌<◌, ◌≤◌, Bool, List, slice_index}
use Rattle.edge_bits.specs.Words.{unpack_of}
use Rattle.function_laws.specs.EntryOrders.{opening_orders}
use Rattle.words_rule.specs.Views.{sizes_for}
use Rattle.words_rule.specs.Layout.{Shape, Words, entry_at, head_of, heads, node_at, order_at, places, words_of}
use Rattle.words_rule.specs.Chains.{Chains}
use Rattle.words_rule.specs.Openings.{opening_on, opening_word}

-- both orders are 0, 1, 2, .., and so are the levels in them
abbrev pub HasOrders : Shape → List ℕ → Type 0
HasOrders z ws = (p : ℕ) → p < places z + places z → slice_index ws (order_at z p) ≡ entry_at z (opening_orders (sizes_for z.variables z.elements)) p

-- no other word was written
abbrev pub IsEmpty : Shape → List ℕ → Type 0
IsEmpty z ws = (i : ℕ) → (i < order_at z 0) ⊎ (node_at z 0 ≤ i) → slice_index ws i ≡ 0

-- the slots that are told by their number have their words, each other slot is free, and no other word was written
pub record HasNodes (z : Shape) (old new : List ℕ) : Type 0 where
  pub rest : words_of z new ≡ record (words_of z old) { node = (words_of z new).node }
  pub node : (s : ℕ) → unpack_of ((words_of z new).node s) ≡ opening_word z.variables s
  pub fits : (s : ℕ) → (words_of z new).node s < 18446744073709551616
  pub behind : (s : ℕ) → 5 + z.variables ≤ s → (words_of z new).node s ≡ 0

-- these slots are on chains, and no word but heads and links was written
pub record AreLinked (z : Shape) (old new : List ℕ) (on : ℕ → Bool) : Type 0 where
  pub rest : words_of z new ≡ record (words_of z old) { next = (words_of z new).next; head = (words_of z new).head }
  pub chain : ℕ → List ℕ
  pub chains : Chains (heads z) (words_of z new).head (words_of z new).next (head_of z) (words_of z new).node on chain

-- the words with which a table opens
pub record AreFirst (z : Shape) (ws : Words) : Type 0 where
  pub journal : ws.journal ≡ 0
  pub phase : ws.phase ≡ 0
  pub order : (p : ℕ) → p < places z + places z → ws.order p ≡ entry_at z (opening_orders (sizes_for z.variables z.elements)) p
  pub node : (s : ℕ) → unpack_of (ws.node s) ≡ opening_word z.variables s
  pub fits : (s : ℕ) → ws.node s < 18446744073709551616
  pub behind : (s : ℕ) → 5 + z.variables ≤ s → ws.node s ≡ 0
  pub count : (k : ℕ) → ws.count k ≡ 0
  pub chain : ℕ → List ℕ
  pub chains : Chains (heads z) ws.head ws.next (head_of z) ws.node (opening_on z.variables) chain
