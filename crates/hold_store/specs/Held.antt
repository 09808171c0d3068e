-- What the holder of a table of words knows of it, and what it has in hand.
use Rattle.std.specs.Prelude.{◌≡◌, ◌≢◌, ◌⊎◌, ℕ, zero, suc, ◌<◌, ◌≤◌, Bool, false, List, [], ◌∷◌, ◌++◌, Option, Some, None}
use Rattle.edge_bits.specs.Words.{unpack_of}
use Rattle.edge_bits.specs.declared.edges.Kind.{Kind}
use Rattle.edge_bits.specs.declared.words.Node.{Node}
use Rattle.edge_bits.specs.declared.words.Word.{Word}
use Rattle.edge_bits.specs.declared.words.Word.TheVariants.{Inner}
use Rattle.edge_bits.specs.Reading.{plain}
use Rattle.function_laws.specs.declared.orders.Order.{Order}
use Rattle.function_laws.specs.Kinds.{Denoted, function_of}
use Rattle.handle_count.specs.CountWords.{count_of, generation_of}
use Rattle.node_store.specs.Contents.{Content, IsPermanent, IsSound, IsUsed, view_of}
use Rattle.node_store.specs.Changes.{next_generation, put_at}
use Rattle.node_store.specs.Views.{CanMake, IsProper, node_values, values_at}
use Rattle.step_store.specs.Chains.{Lists, Once, head_of, link_to}
use Rattle.step_store.specs.Knowing.{IsChain, Walk, turn_of, turns}
use Rattle.step_store.specs.declared.hand.Link.{Link}

-- others change counts as they like, but one that was 0 stays 0
abbrev pub ZeroStays : (ℕ → ℕ) → (ℕ → ℕ) → Type 0
ZeroStays old new = (s : ℕ) → old s ≡ 0 → new s ≡ 0

pub ZeroStays-none : (c : ℕ → ℕ) → ZeroStays c c
ZeroStays-none c s none = none

pub ZeroStays-both : (a b c : ℕ → ℕ) → ZeroStays a b → ZeroStays b c → ZeroStays a c
ZeroStays-both a b c first second s none = second s (first s none)

pub ZeroStays-zero : (a b : ℕ → ℕ) → ZeroStays a b → (s : ℕ) → a s ≡ 0 → b s ≡ 0
ZeroStays-zero a b stays = stays

-- the second of two order words, which is still to be stored
pub record Pending : Type 0 where
  pub order : Order
  pub level : ℕ

pub record Hand : Type 0 where
  -- the levels whose turns it has
  pub levels : List ℕ
  -- the free list, where that is in hand
  pub free : Option (List ℕ)
  -- a slot that is in use and on no chain
  pub loose : Option ℕ
  -- a slot that has its next generation since it left its chain
  pub renewed : Option ℕ
  pub link : Option Link
  pub walk : Option Walk
  pub pending : Option Pending
  -- the slots that answers of the computed table name, where that is in hand
  pub named : Option (ℕ → Bool)

pub record Knowledge : Type 0 where
  -- all words, functions, generations and pins, and each count as it was loaded last
  pub content : Content
  -- the bits of each slot's word
  pub bits : ℕ → ℕ
  -- how many heads there are
  pub heads : ℕ
  pub hand : Hand

-- nothing in hand
abbrev pub idle : Hand
idle = record { levels = []; free = None; loose = None; renewed = None; link = None; walk = None; pending = None; named = None }

abbrev pub HasLevel : Hand → ℕ → Type 0
HasLevel h l = Lists h.levels l

-- what a step that only moves something in hand leaves
abbrev pub handed : Knowledge → Hand → Knowledge
handed k h = record k { hand = h }

-- the level of a word, numbered through both kinds as they stand at first; leaves have one of their own, behind them
abbrev pub level_of_word : Knowledge → Word → ℕ
level_of_word k word = turn_of (view_of k.content) word

-- how many levels have a turn
abbrev pub all_turns : Knowledge → ℕ
all_turns k = turns (view_of k.content)

-- the slots of the list are those that are free, each once
pub record IsFreeList (w : Content) (list : List ℕ) : Type 0 where
  pub free : (s : ℕ) → Lists list s → (s < w.limit) × (w.word s ≡ None)
  pub once : Once list
  pub all : (s : ℕ) → s < w.limit → w.word s ≡ None → Lists list s

-- What is so of each holder.
pub record Stands (k : Knowledge) : Type 0 where
  pub sound : IsSound k.content
  pub reads : (s : ℕ) → k.content.word s ≡ unpack_of (k.bits s)
  pub fits : (s : ℕ) → k.bits s < 18446744073709551616
  pub some_heads : 0 < k.heads
  pub few_heads : k.heads < 4294967296
  pub free_list : (list : List ℕ) → k.hand.free ≡ Some list → IsFreeList k.content list

-- the slot's word is of the head and of the level
pub record IsOf (k : Knowledge) (head level s : ℕ) : Type 0 where
  pub high : 3 ≤ s
  pub word : Word
  pub has : k.content.word s ≡ Some word
  pub head_is : head ≡ head_of k.heads (k.bits s)
  pub level_is : level ≡ level_of_word k word

-- The chain of a head as it stands: slots in use, among them all of a level, but for one that is on no chain.
pub record IsWhole (k : Knowledge) (head level : ℕ) (chain : List ℕ) : Type 0 where
  pub chained : IsChain k.content.limit chain
  pub used : (s : ℕ) → Lists chain s → IsUsed k.content s
  pub all : (s : ℕ) → IsOf k head level s → (k.hand.loose ≡ Some s) ⊎ Lists chain s

-- a slot that may be freed: nothing holds it, and no node names it
pub record IsDead (w : Content) (s : ℕ) : Type 0 where
  pub used : IsUsed w s
  pub spare : IsPermanent w s → ⊥
  pub uncounted : w.count s ≡ 0
  pub unpinned : w.pinned s ≡ false
  pub unnamed : (t : ℕ) (node : Node) → w.word t ≡ Some (Inner node) → (node.hi ≢ s) × (node.lo.index ≢ s)

-- The computed table is in hand, and no answer in it names the slot.
abbrev pub IsForgotten : Hand → ℕ → Type 0
IsForgotten h s = (named : ℕ → Bool) × (h.named ≡ Some named) × (named s ≡ false)

-- what a node of these children denotes
abbrev pub node_function : Kind → Content → Node → Denoted
node_function k w node = function_of k (node_values k (view_of w) node.var (plain node.hi) node.lo)

-- a node that may be stored: its children lie below it, it is none of them, and no slot has its word or denotes its function
pub record IsNew (k : Kind) (w : Content) (node : Node) : Type 0 where
  pub can : CanMake k (view_of w) node.var (plain node.hi) node.lo
  pub proper : IsProper k (values_at k (view_of w) (plain node.hi)) (values_at k (view_of w) node.lo)
  pub absent : (s : ℕ) → w.word s ≡ Some (Inner node) → ⊥
  pub unknown : (s : ℕ) → w.function s ≡ Some (node_function k w node) → ⊥

-- a slot without its node or leaf
abbrev pub freed : Content → ℕ → Content
freed w s = record w { word = put_at w.word s None; function = put_at w.function s None }

-- a count word of the slot's next generation, which nothing holds
abbrev pub IsNextOf : Content → ℕ → ℕ → Type 0
IsNextOf w s word = (count_of word ≡ 0) × (generation_of word ≡ next_generation (w.generation s))

-- the levels below n, the last first
unfoldable pub down : ℕ → List ℕ
down zero = []
down (suc n) = n ∷ down n

-- All turns and the free list are in hand, no slot is off its chain, and no order word is due.
pub record IsReady (k : Knowledge) : Type 0 where
  pub levels : k.hand.levels ≡ down (all_turns k)
  pub free : List ℕ
  pub has_free : k.hand.free ≡ Some free
  pub loose : k.hand.loose ≡ None
  pub renewed : k.hand.renewed ≡ None
  pub link : k.hand.link ≡ None
  pub pending : k.hand.pending ≡ None

-- what a slot that is taken off its chain leaves in hand, and one that is put on
abbrev pub loosened : ℕ → Hand → Hand
loosened s h = record h { loose = Some s; renewed = None; link = None; walk = None }

abbrev pub tied : Hand → Hand
tied h = record h { loose = None; renewed = None; link = None; walk = None }

-- the slot stands before another on the chain that is known
abbrev pub StandsBefore : Knowledge → ℕ → ℕ → Type 0
StandsBefore k before s = (n : Walk) × (front : List ℕ) × (behind : List ℕ) × (k.hand.walk ≡ Some n) × (n.rest ≡ front ++ before ∷ s ∷ behind)

-- the slot is the first of the chain that is known, and that of this head
abbrev pub IsFront : Knowledge → ℕ → ℕ → Type 0
IsFront k head s = (n : Walk) × (behind : List ℕ) × (k.hand.walk ≡ Some n) × (n.head ≡ head) × (n.rest ≡ s ∷ behind)

-- the slot is in use, on this level
abbrev pub IsOfLevel : Knowledge → ℕ → ℕ → Type 0
IsOfLevel k s level = (word : Word) × (k.content.word s ≡ Some word) × (level ≡ level_of_word k word)

-- the turn of a slot's level is in hand
abbrev pub HasTurnOf : Knowledge → ℕ → Type 0
HasTurnOf k s = (word : Word) × (k.content.word s ≡ Some word) × HasLevel k.hand (level_of_word k word)

-- the slot comes behind the first one of the chain that is known
abbrev pub ComesBehind : Knowledge → ℕ → ℕ → Type 0
ComesBehind k first s = (n : Walk) × (behind : List ℕ) × (k.hand.walk ≡ Some n) × (n.rest ≡ first ∷ behind) × Lists behind s × IsChain k.content.limit n.rest

-- the link leads along the chain that is known
abbrev pub LeadsAlong : Knowledge → ℕ → Type 0
LeadsAlong k link = (n : Walk) × (k.hand.walk ≡ Some n) × (link ≡ link_to n.rest) × IsChain k.content.limit n.rest

-- each slot of the chain that is known has other bits
abbrev pub AllElse : Knowledge → ℕ → Type 0
AllElse k bits = (n : Walk) → k.hand.walk ≡ Some n → (s : ℕ) → Lists n.rest s → k.bits s ≢ bits
