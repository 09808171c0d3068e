-- What the steps of the holder of the order tell.
use Rattle.std.specs.Prelude.{◌≡◌, ◌⊎◌, ℕ, ◌+◌, ◌-◌, ◌<◌, ◌≤◌, ◌++◌, List, [], ◌∷◌, Bool, true, false, length, slice_index, Some, None}
use Rattle.std.specs.Prelude as std
use Rattle.atomic_table.specs.Table.{Me, Step, rest}
use Rattle.computed_cache.specs.Entries.{places}
use Rattle.edge_bits.specs.Reading.{plain}
use Rattle.edge_bits.specs.Words.{unpack_of}
use Rattle.edge_bits.specs.declared.edges.Kind.{Kind}
use Rattle.edge_bits.specs.declared.words.Node.{Node}
use Rattle.edge_bits.specs.declared.words.Word.{Word}
use Rattle.edge_bits.specs.declared.words.Word.TheVariants.{Inner}
use Rattle.function_laws.specs.declared.history.Function.{Function}
use Rattle.function_laws.specs.declared.orders.Order.{Order}
use Rattle.function_laws.specs.Kinds.{Denoted, function_of}
use Rattle.function_laws.specs.Sizes.{in_order}
use Rattle.handle_count.specs.CountWords.{count_of, generation_of}
use Rattle.node_store.specs.Contents.{Content, IsUsed, view_of}
use Rattle.node_store.specs.Changes.{exchanged, put_at, rewritten, with_node, with_pin}
use Rattle.node_store.specs.Views.{CanMake, IsProper, node_values, values_at}
use Rattle.step_store.specs.Chains.{Lists, Once, link_to}
use Rattle.step_store.specs.Knowing.{IsChain}
use Rattle.words_rule.specs.declared.view.Hand.{Hand}
use Rattle.words_rule.specs.declared.view.View.{View}
use Rattle.words_rule.specs.declared.view.Walk.{Walk}
use Rattle.words_rule.specs.Exchanges.{dues_of, position}
use Rattle.words_rule.specs.Hands.{HasLevel, freeing, level_of, loosening, without_level}
use Rattle.words_rule.specs.HeldContents.{KnowsAll, held_bits, held_content, numbers_without}
use Rattle.words_rule.specs.Kept.{whole_of}
use Rattle.words_rule.specs.Layout.{count_at, head_at, head_of, next_at, node_at, order_at}
use Rattle.words_rule.specs.Moves.{HasNoted}
use Rattle.words_rule.specs.OneSession.{TellsOne, count_by, storing_count, storing_node, storing_order}
use Rattle.words_rule.specs.Shapes.{shape_in}
use Rattle.words_rule.specs.Tallies.{one_if}
use Rattle.words_rule.specs.Views.{orders_of, told_orders}
use Rattle.free_list.specs.FreeSlots.{FreeSlots}

-- in the store that it knows, the function of each slot that is counted is noted
abbrev pub NotesCounted : View → Type 0
NotesCounted v = (s : ℕ) (f : Denoted) → 0 < (held_content v).count s → (held_content v).function s ≡ Some f → HasNoted v.counts (whole_of (shape_in v.draws) f)

-- what was noted of counted slots is so still
abbrev pub NotesStay : View → View → Type 0
NotesStay v u = (f : Function) → HasNoted v.counts f → HasNoted u.counts f

-- It learns the whole store: its notes of nodes, generations, counts and counted functions change alone.
pub record HasLearnt (v u : View) : Type 0 where
  pub draws : u.draws ≡ v.draws
  pub shares : u.shares ≡ v.shares
  pub hand : u.hand ≡ v.hand
  pub counts : u.counts ≡ record v.counts { zeros = u.counts.zeros; above = u.counts.above }
  pub known : u.known ≡ record v.known { words = u.known.words; seen = u.known.seen; ages = u.known.ages }
  pub work : u.work ≡ record v.work { counts = u.work.counts }
  pub stored : u.stored ≡ v.stored
  pub knows : KnowsAll u
  pub above : NotesCounted u
  pub stays : NotesStay v u

-- The chain of a head as it stands: slots in use, among them all of the head and of the level, but for one that is on no chain.
pub record IsWholeChain (v : View) (head level : ℕ) (chain : List ℕ) : Type 0 where
  pub chained : IsChain v.draws.slots chain
  pub used : (s : ℕ) → Lists chain s → IsUsed (held_content v) s
  pub all : (s : ℕ) (word : Word) → 3 ≤ s → (held_content v).word s ≡ Some word → head ≡ head_of (shape_in v.draws) (held_bits v s) → level ≡ level_of (shape_in v.draws) word
      → (v.hand.loose ≡ Some s) ⊎ Lists chain s

-- a slot of the chain that is known may be taken off it: its level's turn is in hand, and no other slot is on no chain
pub record CanUnlink (v : View) (slot : ℕ) : Type 0 where
  pub loose : v.hand.loose ≡ None
  pub word : Word
  pub has : (held_content v).word slot ≡ Some word
  pub turn : HasLevel v.hand (level_of (shape_in v.draws) word)

-- the slot is the first of the whole chain that is known, or stands behind another there; and this is the link from it
abbrev pub IsAtFront : View → ℕ → ℕ → ℕ → Type 0
IsAtFront v head slot link = (n : Walk) × (behind : List ℕ) × (v.hand.walk ≡ Some n) × (n.whole ≡ true) × (n.head ≡ head) × (n.rest ≡ slot ∷ behind) × (link ≡ link_to behind)

abbrev pub IsBehind : View → ℕ → ℕ → ℕ → Type 0
IsBehind v before slot link = (n : Walk) × (front behind : List ℕ) × (v.hand.walk ≡ Some n) × (n.whole ≡ true) × (n.rest ≡ front ++ before ∷ slot ∷ behind) × (link ≡ link_to behind)

-- what a step of a holder on a node leaves, but for the word that it stores
pub record IsHolderStill (v u : View) : Type 0 where
  pub draws : u.draws ≡ v.draws
  pub shares : u.shares ≡ v.shares
  pub counts : u.counts ≡ v.counts
  pub work : u.work ≡ v.work
  pub told : told_orders u.known ≡ told_orders v.known
  pub pending : u.known.pending ≡ v.known.pending

-- what a node of these children denotes
abbrev pub node_denotes : Kind → Content → Node → Denoted
node_denotes k w node = function_of k (node_values k (view_of w) node.var (plain node.hi) node.lo)

-- a node that may be stored: its children lie below it, it is none of them, and no slot has its word or denotes its function
pub record IsAddable (k : Kind) (w : Content) (node : Node) : Type 0 where
  pub can : CanMake k (view_of w) node.var (plain node.hi) node.lo
  pub proper : IsProper k (values_at k (view_of w) (plain node.hi)) (values_at k (view_of w) node.lo)
  pub absent : (s : ℕ) → w.word s ≡ Some (Inner node) → ⊥
  pub unknown : (s : ℕ) → w.function s ≡ Some (node_denotes k w node) → ⊥

-- a new node came to stand in the first slot of the free list, which is in hand; it is on no chain
pub record HasAdded (k : Kind) (node : Node) (list : List ℕ) (slot bits : ℕ) (v u : View) : Type 0 where
  pub still : IsHolderStill v u
  pub hand : u.hand ≡ record v.hand { free = Some list; loose = Some slot; link = None }
  pub stored : u.stored ≡ storing_node slot bits v.stored
  pub content : held_content u ≡ with_node (held_content v) slot node (node_denotes k (held_content v) node)
  pub bits_are : held_bits u ≡ put_at (held_bits v) slot bits
  pub knows : KnowsAll u

-- a node was rewritten in its slot
pub record HasRewritten (node : Node) (slot bits : ℕ) (v u : View) : Type 0 where
  pub still : IsHolderStill v u
  pub hand : u.hand ≡ v.hand
  pub stored : u.stored ≡ storing_node slot bits v.stored
  pub content : held_content u ≡ rewritten (held_content v) slot node.var (plain node.hi) node.lo
  pub bits_are : held_bits u ≡ put_at (held_bits v) slot bits
  pub knows : KnowsAll u

-- a slot without its node or leaf
abbrev pub emptied : Content → ℕ → Content
emptied w s = record w { word = put_at w.word s None; function = put_at w.function s None }

-- a slot was freed, and stands first on the free list, which is in hand
pub record HasFreed (list : List ℕ) (slot : ℕ) (v u : View) : Type 0 where
  pub still : IsHolderStill v u
  pub hand : u.hand ≡ freeing slot list v.hand
  pub stored : u.stored ≡ storing_node slot 0 v.stored
  pub content : held_content u ≡ emptied (held_content v) slot
  pub bits_are : held_bits u ≡ put_at (held_bits v) slot 0
  pub knows : KnowsAll u

-- a count word was found: its low half counts the seat's own pin too
pub record HasFound (slot n : ℕ) (v u : View) : Type 0 where
  pub is : u ≡ record v { counts = record v.counts { zeros = u.counts.zeros }; work = record v.work { counts = u.work.counts } }
  pub count : ℕ
  pub counted : count_of n ≡ count + one_if ((held_content v).pinned slot)
  pub content : held_content u ≡ record (held_content v) { count = put_at (held_content v).count slot count }
  pub stays : (held_content v).count slot ≡ 0 → count ≡ 0
  pub generation : generation_of n ≡ (held_content v).generation slot
  pub knows : KnowsAll u

-- a slot that nothing holds got another generation
pub record HasRenewed (slot n : ℕ) (v u : View) : Type 0 where
  pub is : u ≡ record v { known = record v.known { ages = u.known.ages }; stored = storing_count slot n v.stored }
  pub content : held_content u ≡ record (held_content v) { generation = put_at (held_content v).generation slot (generation_of n) }
  pub knows : KnowsAll u

-- a slot was pinned, or is no longer, and its count word is this
pub record HasPinned (slot : ℕ) (pinned : Bool) (pins : List ℕ) (word : ℕ) (v u : View) : Type 0 where
  pub is : u ≡ record v { counts = record v.counts { pins = pins }; stored = storing_count slot word v.stored }
  pub content : held_content u ≡ with_pin (held_content v) slot pinned
  pub knows : KnowsAll u

-- the first of the order words of an exchange was stored, and the orders are exchanged
pub record HasExchanged (order : Order) (level : ℕ) (v u : View) : Type 0 where
  pub draws : u.draws ≡ v.draws
  pub shares : u.shares ≡ v.shares
  pub counts : u.counts ≡ v.counts
  pub work : u.work ≡ v.work
  pub hand : u.hand ≡ v.hand
  pub told : told_orders u.known ≡ told_orders v.known
  pub pending : u.known.pending ≡ dues_of (shape_in v.draws) (orders_of v.known) order level
  pub stored : u.stored ≡ storing_order (position (shape_in v.draws) order level) (slice_index (in_order (orders_of v.known) order) (level + 1)) v.stored
  pub content : held_content u ≡ record (held_content v) { orders = exchanged (held_content v).orders order level; half = None }
  pub bits_are : held_bits u ≡ held_bits v
  pub knows : KnowsAll u

-- the slots of the list are those that are free, each once
pub record AreFreeSlots (w : Content) (list : List ℕ) : Type 0 where
  pub free : (s : ℕ) → Lists list s → (s < w.limit) × (w.word s ≡ None)
  pub once : Once list
  pub all : (s : ℕ) → s < w.limit → w.word s ≡ None → Lists list s

module _ {S : Type 0} where
  -- only the hand changes, and to this
  abbrev IsHandedTo : Me S View → Hand → Me S View → Type 0
  IsHandedTo m h m' = m' ≡ (record m.0 { hand = h }, m.1)

  abbrev pub all_learnt : Step S → Me S View → ℕ → Me S View → Type 0
  all_learnt st m n m' = (m'.1 ≡ m.1) × HasLearnt m.0 m'.0

  abbrev pub held_loaded : Step S → Me S View → ℕ → Me S View → Type 0
  held_loaded st m n m' = (m' ≡ m) × ((q : ℕ) → st.word ≡ node_at (shape_in m.0.draws) q → n ≡ held_bits m.0 q) × TellsOne st m n

  abbrev pub HasLoadedWhole : ℕ → ℕ → Me S View → ℕ → Me S View → Type 0
  HasLoadedWhole head level m n m' =
      (chain : List ℕ) × IsHandedTo m (record m.0.hand { walk = Some (record { head = head; level = level; link = n; rest = chain; whole = true }) }) m' × (n ≡ link_to chain) × IsWholeChain m.0 head level chain

  abbrev pub whole_loaded : ℕ → Step S → Me S View → ℕ → Me S View → Type 0
  whole_loaded level st m n m' = (m'.0.draws ≡ m.0.draws) × (m'.1 ≡ m.1) × ((h : ℕ) → st.word ≡ head_at (shape_in m.0.draws) h → HasLoadedWhole h level m n m')

  -- the first of the chain that is known is taken off it, or the one behind the slot whose link is stored
  abbrev pub first_unlinked : Step S → Me S View → ℕ → Me S View → Type 0
  first_unlinked st m n m' = (m'.0.draws ≡ m.0.draws) × (m'.1 ≡ m.1) × ((k : Walk) (slot : ℕ) (behind : List ℕ) → m.0.hand.walk ≡ Some k → k.rest ≡ slot ∷ behind → IsHandedTo m (loosening slot m.0.hand) m')

  abbrev pub later_unlinked : Step S → Me S View → ℕ → Me S View → Type 0
  later_unlinked st m n m' = (m'.0.draws ≡ m.0.draws) × (m'.1 ≡ m.1)
      × ((b : ℕ) → st.word ≡ next_at (shape_in m.0.draws) b → (k : Walk) (front : List ℕ) (slot : ℕ) (behind : List ℕ) → m.0.hand.walk ≡ Some k → k.rest ≡ front ++ b ∷ slot ∷ behind → IsHandedTo m (loosening slot m.0.hand) m')

  abbrev pub node_added : Step S → Me S View → ℕ → Me S View → Type 0
  node_added st m n m' = (m'.0.draws ≡ m.0.draws) × (m'.1 ≡ m.1)
      × ((q : ℕ) → st.word ≡ node_at (shape_in m.0.draws) q → (k : Kind) (node : Node) (list : List ℕ) → unpack_of st.first ≡ Some (Inner node) → IsAddable k (held_content m.0) node → m.0.hand.free ≡ Some (q ∷ list) → HasAdded k node list q st.first m.0 m'.0)

  abbrev pub node_rewritten : Step S → Me S View → ℕ → Me S View → Type 0
  node_rewritten st m n m' = (m'.0.draws ≡ m.0.draws) × (m'.1 ≡ m.1) × ((q : ℕ) → st.word ≡ node_at (shape_in m.0.draws) q → (node : Node) → unpack_of st.first ≡ Some (Inner node) → HasRewritten node q st.first m.0 m'.0)

  abbrev pub node_freed : Step S → Me S View → ℕ → Me S View → Type 0
  node_freed st m n m' = (m'.0.draws ≡ m.0.draws) × (m'.1 ≡ m.1) × ((q : ℕ) → st.word ≡ node_at (shape_in m.0.draws) q → (list : List ℕ) → m.0.hand.free ≡ Some list → HasFreed list q m.0 m'.0)

  abbrev pub count_found : Step S → Me S View → ℕ → Me S View → Type 0
  count_found st m n m' = (m'.0.draws ≡ m.0.draws) × (m'.1 ≡ m.1) × ((k : ℕ) → st.word ≡ count_at (shape_in m.0.draws) k → HasFound k n m.0 m'.0) × TellsOne st m n

  abbrev pub generation_stored : Step S → Me S View → ℕ → Me S View → Type 0
  generation_stored st m n m' = (m'.0.draws ≡ m.0.draws) × (m'.1 ≡ m.1) × ((k : ℕ) → st.word ≡ count_at (shape_in m.0.draws) k → HasRenewed k st.first m.0 m'.0)

  abbrev pub slot_pinned : Step S → Me S View → ℕ → Me S View → Type 0
  slot_pinned st m n m' = (m'.0.draws ≡ m.0.draws) × (m'.1 ≡ m.1) × ((k : ℕ) → st.word ≡ count_at (shape_in m.0.draws) k → HasPinned k true (k ∷ m.0.counts.pins) (count_by m.0.stored k + 1) m.0 m'.0)

  abbrev pub slot_unpinned : Step S → Me S View → ℕ → Me S View → Type 0
  slot_unpinned st m n m' = (m'.0.draws ≡ m.0.draws) × (m'.1 ≡ m.1) × ((k : ℕ) → st.word ≡ count_at (shape_in m.0.draws) k → HasPinned k false (numbers_without k m.0.counts.pins) (count_by m.0.stored k - 1) m.0 m'.0)

  abbrev pub position_loaded : Step S → Me S View → ℕ → Me S View → Type 0
  position_loaded st m n m' = (m' ≡ m)
      × ((order : Order) (level : ℕ) → st.word ≡ order_at (shape_in m.0.draws) (position (shape_in m.0.draws) order level) → level < length (in_order (orders_of m.0.known) order) → n ≡ slice_index (in_order (orders_of m.0.known) order) level) × TellsOne st m n

  abbrev pub orders_exchanged : Step S → Me S View → ℕ → Me S View → Type 0
  orders_exchanged st m n m' = (m'.0.draws ≡ m.0.draws) × (m'.1 ≡ m.1)
      × ((order : Order) (level : ℕ) → st.word ≡ order_at (shape_in m.0.draws) (position (shape_in m.0.draws) order level) → level < length (in_order (orders_of m.0.known) order) → HasExchanged order level m.0 m'.0)

  -- an order word that was due is stored
  abbrev pub due_stored : Step S → Me S View → ℕ → Me S View → Type 0
  due_stored st m n m' = (m'.0.draws ≡ m.0.draws) × (m'.1 ≡ m.1) × ((p : ℕ) → st.word ≡ order_at (shape_in m.0.draws) p → m' ≡ (record m.0 { known = record m.0.known { pending = without_level p m.0.known.pending }; stored = storing_order p st.first m.0.stored }, m.1))

  -- the free list goes back as it is; the computed table goes back, without answers
  abbrev pub free_returned : Step S → Me S View → ℕ → Me S View → Type 0
  free_returned st m n m' = m' ≡ (record m.0 { hand = record m.0.hand { free = None } }, rest m.1)

  abbrev pub memo_returned : Step S → Me S View → ℕ → Me S View → Type 0
  memo_returned st m n m' = m' ≡ (record m.0 { hand = record m.0.hand { memo = false } }, rest m.1)

module _ {S : Type 0} (free_slots : S → FreeSlots) where
  abbrev pub free_claimed : Step (std.Option S) → Me (std.Option S) View → ℕ → Me (std.Option S) View → Type 0
  free_claimed st m n m' =
      (m'.0.draws ≡ m.0.draws) × (n ≡ 0 → (x : S) × (m' ≡ (record m.0 { hand = record m.0.hand { free = Some (free_slots x).slots } }, (1, Some x) ∷ m.1)) × AreFreeSlots (held_content m.0) (free_slots x).slots × ((free_slots x).room ≡ m.0.draws.slots))
      × ((n ≡ 0 → ⊥) → m' ≡ m)

module _ {S : Type 0} (memo : S → List ℕ) where
  abbrev pub memo_claimed : Step (std.Option S) → Me (std.Option S) View → ℕ → Me (std.Option S) View → Type 0
  memo_claimed st m n m' =
      (m'.0.draws ≡ m.0.draws) × (n ≡ 0 → (x : S) × (m' ≡ (record m.0 { hand = record m.0.hand { memo = true } }, (2, Some x) ∷ m.1)) × (0 < places (memo x)))
      × ((n ≡ 0 → ⊥) → m' ≡ m)
