-- A store as its words and its orders, and when it is canonical.
use Rattle.std.specs.Prelude.{◌%◌, replicate, ◌≡◌, ℕ, zero, suc, ◌+◌, ◌-◌, ◌^◌, ◌<◌, ◌≤◌, nat_lt, nat_le, Bool, true, false, ◌&&◌, ◌||◌, ◌==◌, if◌then◌else◌, List, length, slice_index, Option, Some, None, ℤ, max}
use Rattle.std.specs.List.{count_by, list_any, range_with_len}
use Rattle.edge_bits.specs.Permanent.{first_element}
use Rattle.computed_cache.specs.Entries.{Kept, kept_at}
use Rattle.edge_bits.specs.Words.{unpack_of}
use Rattle.edge_bits.specs.declared.edges.Edge.{Edge}
use Rattle.edge_bits.specs.declared.edges.Kind.{Kind}
use Rattle.edge_bits.specs.declared.edges.Kind.TheVariants.{Bdd, Add, Zdd}
use Rattle.edge_bits.specs.declared.words.Node.{Node}
use Rattle.edge_bits.specs.declared.words.Word.{Word}
use Rattle.edge_bits.specs.declared.words.Word.TheVariants.{Inner, Leaf}
use Rattle.edge_bits.specs.Assignments.{set_bit}
use Rattle.edge_bits.specs.Reading.{slots_of, element_of, plain}
use Rattle.edge_bits.specs.declared.limits.TheConstants.{MOST_ELEMENTS, MOST_VARIABLES}
use Rattle.function_laws.specs.Values.{constant}
use Rattle.function_laws.specs.Numbers.{is_value}
use Rattle.function_laws.specs.Kinds.{Denoted, AddFunction, ValueOf, flipped}
use Rattle.node_store.specs.Contents.{is_used, constant_value, projection_node}
use Rattle.node_store.specs.Memo.{MemoHolds}
use Rattle.node_store.specs.Views.{View, IsVariable, IsProper, CanMake, function_at, levels, values_at}
use Rattle.node_store.specs.Stacks.{Scratch, levels_in}
use Rattle.handle_count.specs.CountWords.{count_of, generation_of}
use Rattle.node_slots.specs.Slots.{node_of, function_at_most}
use Rattle.node_slots.specs.declared.plain_store.Refused.{Refused}
use Rattle.node_slots.specs.declared.plain_store.Refused.TheVariants as refused

pub record Plain : Type 0 where
  -- the level of each variable, and of each element
  pub variable_levels : List ℕ
  pub element_levels : List ℕ
  -- the variable at each level of the one order, and the element at each level of the other
  pub variables_at : List ℕ
  pub elements_at : List ℕ
  -- the 64-bit word of each slot, and its count word
  pub words : List ℕ
  pub counts : List ℕ
  -- the flag of each slot that is marked, and of each that is pinned
  pub marks : List ℕ
  pub pins : List ℕ
  pub sweeping : Bool
  pub fulls : ℕ
  -- the arguments of the call that was refused last
  pub due : Option Refused
  -- the words of the computed table
  pub memo : List ℕ
  -- for how many levels the scratch that it lends has room
  pub scratch_room : ℕ

abbrev pub slots : Plain → ℕ → Option Word
slots p = slots_of p.words

-- the level of a variable, and of an element by its number after the first element's
abbrev pub level_in : Plain → ℕ → ℕ
level_in p v = if nat_lt v first_element then slice_index p.variable_levels v else slice_index p.element_levels (element_of v)

-- no path has more words than levels and a leaf
abbrev pub longest : Plain → ℕ
longest p = max (length p.variable_levels) (length p.element_levels)

abbrev pub content_of : Plain → ℕ → Option Denoted
content_of p = function_at_most (slots p) (suc (longest p))

-- the level of a slot's node; of a leaf the number of variables, or of elements
abbrev pub top_of_word : Plain → Option Word → ℕ
top_of_word p None = length p.variable_levels
top_of_word p (Some (Leaf x)) = length p.variable_levels
top_of_word p (Some (Inner node)) = level_in p node.var

abbrev pub top_in : Plain → ℕ → ℕ
top_in p zero = length p.variable_levels
top_in p (suc zero) = length p.element_levels
top_in p (suc (suc zero)) = length p.element_levels
top_in p (suc (suc (suc s))) = top_of_word p (slots p (suc (suc (suc s))))

-- whether a slot's flag is set
abbrev pub is_set : List ℕ → ℕ → Bool
is_set flags s = slice_index flags s == 1

-- whether a sweep is on or a slot is pinned
abbrev pub is_held : Plain → Bool
is_held p = p.sweeping || list_any (λ bits. bits == 1) p.pins

-- how many rows and cells hold a slot, and how often it was freed, modulo 2^32
abbrev pub count_at : Plain → ℕ → ℕ
count_at p s = count_of (slice_index p.counts s)

abbrev pub generation_at : Plain → ℕ → ℕ
generation_at p s = generation_of (slice_index p.counts s)

-- for how many levels a scratch has room, if there is one
abbrev pub lent_room : Option Scratch → ℕ
lent_room None = 0
lent_room (Some scratch) = levels_in scratch

-- the function that a refused call would have stored
abbrev pub refused_function : (ℕ → Option Denoted) → Option Refused → Option Denoted
refused_function content None = None
refused_function content (Some (refused.Node v hi lo)) = node_of v (flipped hi.complement (content hi.index)) (flipped lo.complement (content lo.index))
refused_function content (Some (refused.Leaf x)) = Some (AddFunction (constant x))

abbrev pub plain_view : Plain → View
plain_view p = record {
  vars = length p.variable_levels;
  elements = length p.element_levels;
  slots = length p.words;
  content = content_of p;
  level = level_in p;
  top = top_in p;
  made = λ s. nat_le (5 + length p.variable_levels) s && is_used (slots p s);
  fulls = p.fulls;
  due = refused_function (content_of p) p.due;
  count = count_at p;
  generation = generation_at p;
  is_held = is_held p;
  may_want_memory = false;
  room = p.scratch_room;
}

-- the assignment where the first n variables are true, and no other
unfoldable pub ones : ℕ → ℕ
ones zero = 0
ones (suc n) = set_bit (ones n) n true

-- true where the first n variables are, if it is a BDD's
abbrev pub IsRegular : (k : Kind) → ℕ → (ℕ → ValueOf k) → Type 0
IsRegular Bdd n f = f (ones n) ≡ true
IsRegular Add n f = Unit {0}
IsRegular Zdd n f = Unit {0}

-- a node of the store: its children lie below it and differ, and the then child of a BDD is true where all variables are
pub record IsNode (k : Kind) (p : Plain) (node : Node) : Type 0 where
  pub can_make : CanMake k (plain_view p) node.var (plain node.hi) node.lo
  pub proper : IsProper k (values_at k (plain_view p) (plain node.hi)) (values_at k (plain_view p) node.lo)
  pub regular : IsRegular k (length p.variable_levels) (values_at k (plain_view p) (plain node.hi))

-- each level holds one variable, or element
pub record IsOrdered (p : Plain) : Type 0 where
  pub within : (k : Kind) (v : ℕ) → IsVariable k (plain_view p) v → level_in p v < levels k (plain_view p)
  pub alone : (k : Kind) (u v : ℕ) → IsVariable k (plain_view p) u → IsVariable k (plain_view p) v → level_in p u ≡ level_in p v → u ≡ v

-- the word of a permanent slot: of the constants 0 to 4, then of the projections
abbrev pub permanent_word : ℕ → Word
permanent_word s = if nat_lt s 5 then Leaf (constant_value s) else Inner (projection_node (s - 5))

-- the permanent slots hold their words
pub record HasPermanent (p : Plain) : Type 0 where
  pub constants : (s : ℕ) → s < 5 → slots p s ≡ Some (Leaf (constant_value s))
  pub projections : (v : ℕ) → v < length p.variable_levels → slots p (5 + v) ≡ Some (Inner (projection_node v))

-- each word is a node or a leaf in range, and no two slots denote one function
pub record IsCanonical (p : Plain) : Type 0 where
  pub nodes : (s : ℕ) (node : Node) → slots p s ≡ Some (Inner node) → (k : Kind) × IsNode k p node
  pub leaves : (s : ℕ) (x : ℤ) → slots p s ≡ Some (Leaf x) → is_value x ≡ true
  pub apart : (s t : ℕ) (f : Denoted) → content_of p s ≡ Some f → content_of p t ≡ Some f → s ≡ t

-- each slot has a word
abbrev pub HasNoFree : Plain → Type 0
HasNoFree p = (t : ℕ) → t < length p.words → slots p t ≡ None → ⊥

-- no edge denotes the function
abbrev pub IsUnknown : Plain → Denoted → Type 0
IsUnknown p f = (e : Edge) → function_at (plain_view p) e ≡ Some f → ⊥

-- each answer that is kept under a key stands in the operation's relation
abbrev pub AreRemembered : View → List ℕ → Type 0
AreRemembered w memo = (i : ℕ) (kept : Kept) → kept_at memo i ≡ Some kept → MemoHolds w kept.key kept.edge

-- at each level stands what has that level
pub record AreInverse (levels at : List ℕ) : Type 0 where
  pub as_many : length at ≡ length levels
  pub each : (level : ℕ) → level < length at → (slice_index at level < length levels) × (slice_index levels (slice_index at level) ≡ level)

-- A count can rise by one for a pin. A free slot is not counted and not pinned.
pub record AreHolds (p : Plain) : Type 0 where
  pub counted : length p.counts ≡ length p.words
  pub marks_fit : length p.marks ≡ length p.words
  pub pins_fit : length p.pins ≡ length p.words
  pub few : (s : ℕ) → count_at p s < 2 ^ 32 - 1
  pub uncounted : (s : ℕ) → slots p s ≡ None → count_at p s ≡ 0
  pub unpinned : (s : ℕ) → slots p s ≡ None → is_set p.pins s ≡ false

pub record IsStore (p : Plain) : Type 0 where
  pub ordered : IsOrdered p
  pub variables_stand : AreInverse p.variable_levels p.variables_at
  pub elements_stand : AreInverse p.element_levels p.elements_at
  pub permanent : HasPermanent p
  pub canonical : IsCanonical p
  pub few_variables : length p.variable_levels ≤ MOST_VARIABLES
  pub few_elements : length p.element_levels ≤ MOST_ELEMENTS
  pub room : 5 + length p.variable_levels ≤ length p.words
  pub few_words : length p.words < 2 ^ 23
  pub holds : AreHolds p
  -- where a call was refused and nothing was freed since, each slot has a word, and no edge denotes what was due
  pub refused : (r : Refused) → p.due ≡ Some r → HasNoFree p
  pub missing : (f : Denoted) → (plain_view p).due ≡ Some f → IsUnknown p f
  pub remembered : AreRemembered (plain_view p) p.memo

-- whether the bits are a word's
abbrev pub is_word : ℕ → Bool
is_word bits = is_used (unpack_of bits)

-- how many slots have a word
abbrev pub in_use : Plain → ℕ
in_use p = count_by is_word p.words

-- a store with the permanent slots alone, as it opens: both orders are 0, 1, 2, ..
pub record IsOpening (vars elements limit : ℕ) (p : Plain) : Type 0 where
  pub variable_levels : p.variable_levels ≡ range_with_len 0 vars
  pub element_levels : p.element_levels ≡ range_with_len 0 elements
  pub variables_at : p.variables_at ≡ range_with_len 0 vars
  pub elements_at : p.elements_at ≡ range_with_len 0 elements
  pub slots_are : length p.words ≡ limit
  pub permanent : (s : ℕ) → s < 5 + vars → slots p s ≡ Some (permanent_word s)
  pub free : (s : ℕ) → 5 + vars ≤ s → slots p s ≡ None
  pub counts : p.counts ≡ replicate limit 0
  pub marks : p.marks ≡ replicate limit 0
  pub pins : p.pins ≡ replicate limit 0
  pub sweeping : p.sweeping ≡ false
  pub fulls : p.fulls ≡ 0
  pub due : p.due ≡ None
  pub memo : (i : ℕ) → kept_at p.memo i ≡ None

-- the count word of the next generation of a slot
pub record IsNext (old new : ℕ) : Type 0 where
  pub count : count_of new ≡ count_of old
  pub generation : generation_of new ≡ (generation_of old + 1) % 2 ^ 32
