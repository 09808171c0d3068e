-- The part of a table that was made for one session: each node, order and count word is the one that the session's seat stored last, and the opening one where it stored none.
use Rattle.std.specs.Prelude.{◌≡◌, ◌⊎◌, ℕ, ◌+◌, ◌-◌, ◌<◌, ◌==◌, if◌then◌else◌, List, [], ◌∷◌, Bool, true}
use mathlib.Core.Option.{some}
use lib.ListN.{get_elem?}
use Rattle.atomic_table.specs.Table.{Me, Step}
use Rattle.function_laws.specs.EntryOrders.{opening_orders}
use Rattle.words_rule.specs.declared.view.StoredWord.{StoredWord}
use Rattle.words_rule.specs.declared.view.Stored.{Stored}
use Rattle.words_rule.specs.declared.view.View.{View}
use Rattle.words_rule.specs.Views.{sizes_for}
use Rattle.words_rule.specs.Shapes.{shape_in}
use Rattle.words_rule.specs.Layout.{Shape, count_at, entry_at, node_at, order_at, places}
use Rattle.words_rule.specs.Openings.{opening_bits}

-- the newest of these words with this number, and if there is none the opening one
abbrev pub newest : List StoredWord → ℕ → ℕ → ℕ
newest [] k opening = opening
newest (x ∷ xs) k opening = if x.index == k then x.word else newest xs k opening

-- the node word of a slot, an order word and the count word of a slot, as a seat that stored these tells them
abbrev pub node_by : Shape → Stored → ℕ → ℕ
node_by z l s = newest l.nodes s (opening_bits z.variables s)

abbrev pub order_by : Shape → Stored → ℕ → ℕ
order_by z l p = newest l.orders p (entry_at z (opening_orders (sizes_for z.variables z.elements)) p)

abbrev pub count_by : Stored → ℕ → ℕ
count_by l k = newest l.counts k 0

-- one word more is stored
abbrev pub storing_node : ℕ → ℕ → Stored → Stored
storing_node s bits l = record l { nodes = record { index = s; word = bits } ∷ l.nodes }

abbrev pub storing_order : ℕ → ℕ → Stored → Stored
storing_order p entry l = record l { orders = record { index = p; word = entry } ∷ l.orders }

abbrev pub storing_count : ℕ → ℕ → Stored → Stored
storing_count k word l = record l { counts = record { index = k; word = word } ∷ l.counts }

-- the count word is one more than it was, and one less
abbrev pub counting_up : ℕ → Stored → Stored
counting_up k l = storing_count k (count_by l k + 1) l

abbrev pub counting_down : ℕ → Stored → Stored
counting_down k l = storing_count k (count_by l k - 1) l

-- these are the words
pub record AreTold (z : Shape) (order node count : ℕ → ℕ) (l : Stored) : Type 0 where
  pub orders : (p : ℕ) → p < places z + places z → order p ≡ order_by z l p
  pub nodes : (s : ℕ) → node s ≡ node_by z l s
  pub counts : (k : ℕ) → count k ≡ count_by l k

-- what the part speaks of in a view
pub record Storer : Type 0 where
  pub live : Bool
  pub closing : Bool
  pub session : ℕ
  pub sessions : ℕ
  pub given : ℕ
  pub stored : Stored

abbrev pub storer_of : View → Storer
storer_of v = record { live = v.draws.live; closing = v.draws.closing; session = v.draws.session; sessions = v.draws.sessions; given = v.draws.given; stored = v.stored }

-- All views tell how many sessions the table was made for, and the number of each session is below that. Where it is one, the words are those that its seat's view tells from its split until it is joined; and before the split they are the opening ones.
pub record OneSession (z : Shape) (order node count : ℕ → ℕ) (xs : List Storer) : Type 0 where
  pub sessions : ℕ
  pub known : (id : ℕ) (x : Storer) → get_elem? xs id ≡ some x → (x.live ≡ true) ⊎ (x.closing ≡ true) → x.sessions ≡ sessions
  pub below : (id : ℕ) (x : Storer) → get_elem? xs id ≡ some x → x.live ≡ true → x.session < sessions
  pub told : sessions ≡ 1 → (id : ℕ) (x : Storer) → get_elem? xs id ≡ some x → (x.live ≡ true) ⊎ ((x.closing ≡ true) × (x.given ≡ 0)) → AreTold z order node count x.stored

-- a word of a table that was made for one session, by its kind and number
pub record IsTold (z : Shape) (l : Stored) (word n : ℕ) : Type 0 where
  pub node : (s : ℕ) → s < z.slots → word ≡ node_at z s → n ≡ node_by z l s
  pub order : (p : ℕ) → p < places z + places z → word ≡ order_at z p → n ≡ order_by z l p
  pub count : (k : ℕ) → k < z.slots → word ≡ count_at z k → n ≡ count_by l k

module _ {S : Type 0} where
  -- what a step of a live seat finds is so, where the table was made for one session
  abbrev pub TellsOne : Step S → Me S View → ℕ → Type 0
  TellsOne st m n = m.0.draws.sessions ≡ 1 → IsTold (shape_in m.0.draws) m.0.stored st.word n
