-- What steps tell.
use Rattle.std.specs.Prelude.{◌≡◌, ◌≢◌, List, ℕ, ◌+◌, ◌<◌, ◌≤◌, ◌++◌, ◌∷◌, Some, None, false}
use Rattle.std.specs.Prelude as std
use Rattle.atomic_table.specs.Table.{Me, Step, rest}
use Rattle.edge_bits.specs.Words.{unpack_of, pack_of}
use Rattle.function_laws.specs.declared.history.Function.{Function}
use Rattle.edge_bits.specs.declared.edges.Kind.{Kind}
use Rattle.node_store.specs.Contents.{level_of}
use Rattle.node_store.specs.Views.{IsVariable}
use Rattle.step_store.specs.Chains.{link_to}
use Rattle.step_store.specs.Knowing.{IsChain, risen}
use Rattle.words_rule.specs.declared.cell.Cell.{Cell}
use Rattle.words_rule.specs.declared.view.Held.{Held}
use Rattle.words_rule.specs.declared.view.Share.TheVariants as shares
use Rattle.words_rule.specs.declared.view.Job.{Job}
use Rattle.words_rule.specs.declared.view.Walk.{Walk}
use Rattle.words_rule.specs.declared.view.Hand.{Hand}
use Rattle.words_rule.specs.declared.view.View.{View}
use Rattle.words_rule.specs.Views.{holding, letting_go, orders_of, shown}
use Rattle.words_rule.specs.Layout.{places, turn_at, order_at, node_at, next_at, head_at}
use Rattle.words_rule.specs.Shapes.{shape_in}
use Rattle.words_rule.specs.Phase.{with_op}
use Rattle.words_rule.specs.Dues.{slot_of, word_of}
use Rattle.words_rule.specs.Hands.{place_of, linking, pushing, taking, with_level, without_level}
use Rattle.words_rule.specs.Known.{Own, known_of, own_none, with_made}
use Rattle.words_rule.specs.OneSession.{TellsOne, storing_node}
use Rattle.words_rule.specs.Loads.{IsSeatOf, LearntMemo, LoadedNode, LoadedWord, StoredNode, seeing}
use Rattle.edge_bits.specs.Permanent.{first_element}
use Rattle.free_list.specs.FreeSlots.{FreeSlots}

module _ {S : Type 0} where
  -- an operation share: it is held, or there was a bit
  abbrev pub shared : Step S → Me S View → ℕ → Me S View → Type 0
  shared st m n m' =
      (n < 4294967296 → (variables elements : List ℕ) × (m' ≡ (record m.0 { known = record m.0.known { variable_order = variables; element_order = elements }; shares = with_op m.0.shares shares.Held n }, m.1)))
      × (4294967296 ≤ n → m' ≡ (record m.0 { shares = with_op m.0.shares shares.Owed n }, m.1))

  -- only what it has in hand of the tables changes, and to this
  abbrev pub IsHanded : Me S View → Hand → Me S View → Type 0
  IsHanded m h m' = m' ≡ (record m.0 { hand = h }, m.1)

  -- what the journal tells it stays, and what it has out of the slots
  abbrev pub Stays : Me S View → Me S View → Type 0
  Stays m m' = (m'.0.draws ≡ m.0.draws) × (m'.1 ≡ m.1)

  -- the turn of the level whose word it is: taken if it was at home; given back
  abbrev pub turn_taken : Step S → Me S View → ℕ → Me S View → Type 0
  turn_taken st m n m' = Stays m m' × ((l : ℕ) → st.word ≡ turn_at l → (n ≡ 0 → IsHanded m (with_level l m.0.hand) m') × (n ≢ 0 → m' ≡ m))

  abbrev pub turn_given : Step S → Me S View → ℕ → Me S View → Type 0
  turn_given st m n m' = Stays m m' × ((l : ℕ) → st.word ≡ turn_at l → IsHanded m (record m.0.hand { levels = without_level l m.0.hand.levels; walk = None }) m')

  -- a head, under the turn of a level: the whole of its chain is known
  abbrev pub HasLoaded : ℕ → ℕ → Me S View → ℕ → Me S View → Type 0
  HasLoaded head level m n m' = (chain : List ℕ) × IsHanded m (record m.0.hand { walk = Some (record { head = head; level = level; link = n; rest = chain; whole = false }) }) m' × (n ≡ link_to chain) × IsChain m.0.draws.slots chain

  abbrev pub head_loaded : ℕ → Step S → Me S View → ℕ → Me S View → Type 0
  head_loaded level st m n m' = Stays m m' × ((h : ℕ) → st.word ≡ head_at (shape_in m.0.draws) h → HasLoaded h level m n m')

  -- the link behind a slot of the chain that is known
  abbrev pub LeadsOn : ℕ → Me S View → ℕ → Type 0
  LeadsOn q m n = (k : Walk) (front behind : List ℕ) → m.0.hand.walk ≡ Some k → k.rest ≡ front ++ q ∷ behind → n ≡ link_to behind

  abbrev pub next_loaded : Step S → Me S View → ℕ → Me S View → Type 0
  next_loaded st m n m' = (m' ≡ m) × ((q : ℕ) → st.word ≡ next_at (shape_in m.0.draws) q → LeadsOn q m n)

  abbrev pub node_loaded : Own → Step S → Me S View → ℕ → Me S View → Type 0
  node_loaded o st m n m' = (m'.1 ≡ m.1) × (m'.0.hand ≡ m.0.hand) × (m'.0.work ≡ m.0.work) × (m'.0.stored ≡ m.0.stored) × IsSeatOf m.0 m'.0 × ((q : ℕ) → st.word ≡ node_at (shape_in m.0.draws) q → LoadedNode (known_of m.0 o) (known_of m'.0 o) q n) × TellsOne st m n

  -- the level word of a variable or an element
  abbrev pub level_loaded : Step S → Me S View → ℕ → Me S View → Type 0
  level_loaded st m n m' = (m' ≡ m)
      × ((k : Kind) (u : ℕ) → IsVariable k (known_of m.0 own_none).view u → st.word ≡ order_at (shape_in m.0.draws) (places (shape_in m.0.draws) + place_of (shape_in m.0.draws) u) → (n ≡ level_of (orders_of m.0.known) u) × (n < first_element)) × TellsOne st m n

  -- the first free slot was taken for a word of these bits
  pub record HasTaken (bits slot : ℕ) (m m' : Me S View) : Type 0 where
    pub job : Job
    pub is : m' ≡ (record m.0 { hand = taking job m.0.hand }, rest m.1)
    pub slot_is : slot_of job ≡ slot
    pub packs : pack_of (word_of job) ≡ bits
    pub reads : unpack_of bits ≡ Some (word_of job)
    pub within : slot < m.0.draws.slots

  abbrev pub slot_taken : ℕ → Step S → Me S View → ℕ → Me S View → Type 0
  slot_taken bits st m n m' = (slot : ℕ) (list : List ℕ) → m.0.hand.free ≡ Some (slot ∷ list) → HasTaken bits slot m m'

  -- the free list goes back, empty, and what was due is noted
  abbrev pub empty_given : std.Option Function → Step S → Me S View → ℕ → Me S View → Type 0
  empty_given due st m n m' = m' ≡ (record m.0 { hand = record m.0.hand { free = None }; work = record m.0.work { fulls = risen m.0.work.fulls; due = due } }, rest m.1)

  abbrev pub next_stored : Step S → Me S View → ℕ → Me S View → Type 0
  next_stored st m n m' = Stays m m' × ((q : ℕ) → st.word ≡ next_at (shape_in m.0.draws) q → IsHanded m (linking q st.first m.0.hand) m')

  abbrev pub node_stored : Own → Step S → Me S View → ℕ → Me S View → Type 0
  node_stored o st m n m' = (m'.1 ≡ m.1) × IsSeatOf m.0 m'.0
      × ((q : ℕ) → st.word ≡ node_at (shape_in m.0.draws) q → (m'.0.work ≡ record m.0.work { made = q ∷ m.0.work.made }) × (m'.0.stored ≡ storing_node q st.first m.0.stored) × StoredNode (known_of m.0 o) (known_of m'.0 (with_made o q)) q st.first)

  -- the step of a head, where the first operand is the link that the slot has
  abbrev pub pushed : Step S → Me S View → ℕ → Me S View → Type 0
  pushed st m n m' = (n ≡ st.first → m' ≡ (record m.0 { hand = pushing m.0.hand }, m.1)) × (n ≢ st.first → m' ≡ m)

  abbrev pub word_walked : Step S → Me S View → ℕ → Me S View → Type 0
  word_walked st m n m' = (m'.1 ≡ m.1) × (m'.0 ≡ seeing m.0 m'.0.known.seen) × ((q : ℕ) → st.word ≡ node_at (shape_in m.0.draws) q → LoadedWord m.0 m'.0 q n) × TellsOne st m n

module _ {S : Type 0} (board : S → List (std.Option Cell)) where
  abbrev pub board_taken : Step (std.Option S) → Me (std.Option S) View → ℕ → Me (std.Option S) View → Type 0
  board_taken st m n m' = (n ≡ 0 → (x : S) × (cells : List (std.Option Held)) × (board x ≡ shown cells) × (m' ≡ (record m.0 { draws = holding m.0.draws cells }, (0, Some x) ∷ m.1))) × (n ≢ 0 → m' ≡ m)

module _ {S : Type 0} where
  abbrev pub board_given : Step S → Me S View → ℕ → Me S View → Type 0
  board_given st m n m' = m' ≡ (record m.0 { draws = letting_go m.0.draws }, rest m.1)

module _ {S : Type 0} (free_slots : S → FreeSlots) where
  abbrev pub free_taken : Step (std.Option S) → Me (std.Option S) View → ℕ → Me (std.Option S) View → Type 0
  free_taken st m n m' = (m'.0.draws ≡ m.0.draws) × (n ≡ 0 → (x : S) × (m' ≡ (record m.0 { hand = record m.0.hand { free = Some (free_slots x).slots } }, (1, Some x) ∷ m.1)) × ((free_slots x).room ≡ m.0.draws.slots)) × (n ≢ 0 → m' ≡ m)

module _ {S : Type 0} (memo : S → List ℕ) where
  abbrev pub memo_taken : Own → Step (std.Option S) → Me (std.Option S) View → ℕ → Me (std.Option S) View → Type 0
  memo_taken o st m n m' = (m'.0.draws ≡ m.0.draws) × (n ≡ 0 → (x : S) × LearntMemo o (memo x) m.0 m'.0 × (m'.1 ≡ (2, Some x) ∷ m.1)) × (n ≢ 0 → m' ≡ m)

module _ {S : Type 0} where
  abbrev pub memo_given : Step (std.Option S) → Me (std.Option S) View → ℕ → Me (std.Option S) View → Type 0
  memo_given st m n m' = m' ≡ (record m.0 { hand = record m.0.hand { memo = false } }, rest m.1)
