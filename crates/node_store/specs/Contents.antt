-- What the holder of a whole store knows of it.
use Rattle.std.specs.Prelude.{◌≡◌, ℕ, zero, suc, ◌+◌, ◌-◌, ◌^◌, ◌<◌, ◌≤◌, nat_lt, ◌==◌, Bool, true, false, ◌⊎◌, if◌then◌else◌, List, length, slice_index, Option, Some, None, ℤ, pos}
use Rattle.std.specs.List.{filter, range_with_len}
use Rattle.edge_bits.specs.Assignments.{bit}
use Rattle.edge_bits.specs.Reading.{element_of, plain}
use Rattle.edge_bits.specs.Permanent.{true_slot, empty_slot, base_slot, zero_slot, first_projection, first_element, truth_edge}
use Rattle.edge_bits.specs.declared.edges.Kind.{Kind}
use Rattle.edge_bits.specs.declared.words.Node.{Node}
use Rattle.edge_bits.specs.declared.words.Word.{Word}
use Rattle.edge_bits.specs.declared.words.Word.TheVariants.{Inner, Leaf}
use Rattle.function_laws.specs.Values.{constant}
use Rattle.function_laws.specs.Numbers.{is_value}
use Rattle.function_laws.specs.Families.{empty, base}
use Rattle.function_laws.specs.declared.orders.Order.{Order}
use Rattle.function_laws.specs.declared.orders.Order.TheVariants.{Variables, Elements}
use Rattle.function_laws.specs.Sizes.{Orders, in_order}
use Rattle.function_laws.specs.SiftedOrders.{place_of}
use Rattle.function_laws.specs.Kinds.{Denoted, BddFunction, AddFunction, ZddFamily, ValueOf, function_of, joined_at, Lacks, Fits, flipped}
use Rattle.node_store.specs.Edges.{flip_if}
use Rattle.node_store.specs.Views.{View, IsBeyond, IsVariable, IsProper}
use Rattle.node_store.specs.declared.grow.Opened.{Opened}
use Rattle.node_store.specs.declared.grow.Opened.TheVariants as opened

-- two neighbours of an order, whose swap is half made: some nodes of the upper one were rewritten
pub record Pair : Type 0 where
  pub upper : ℕ
  pub lower : ℕ

pub record Content : Type 0 where
  -- both orders, the elements by their own numbers
  pub orders : Orders
  -- how many slots there are
  pub limit : ℕ
  -- the word of each slot in use, and what it denotes: a free slot has none
  pub word : ℕ → Option Word
  pub function : ℕ → Option Denoted
  -- the rows and board cells that hold a slot, as they were counted last, without its pin
  pub count : ℕ → ℕ
  pub generation : ℕ → ℕ
  pub marked : ℕ → Bool
  pub pinned : ℕ → Bool
  -- between sweep_in and sweep_out
  pub sweeping : Bool
  -- the two variable numbers whose swap is half made
  pub half : Option Pair

-- the variable number of a word, from a variable or an element, and its level
abbrev pub number_of : Order → ℕ → ℕ
number_of Variables v = v
number_of Elements e = first_element + e

abbrev pub level_of : Orders → ℕ → ℕ
level_of orders v = if nat_lt v first_element then place_of v orders.variables else place_of (element_of v) orders.elements

-- the variable number at a level
abbrev pub var_at : Content → Order → ℕ → ℕ
var_at w order level = number_of order (slice_index (in_order w.orders order) level)

abbrev pub top_of_word : Orders → Option Word → ℕ
top_of_word orders None = length orders.variables
top_of_word orders (Some (Leaf x)) = length orders.variables
top_of_word orders (Some (Inner node)) = level_of orders node.var

abbrev pub top_of : Content → ℕ → ℕ
top_of w zero = length w.orders.variables
top_of w (suc zero) = length w.orders.elements
top_of w (suc (suc zero)) = length w.orders.elements
top_of w (suc (suc (suc s))) = top_of_word w.orders (w.word (suc (suc (suc s))))

-- its functions and orders, as operators see them; what they see of counts, room and refusals is left out
abbrev pub view_of : Content → View
view_of w = record {
  vars = length w.orders.variables;
  elements = length w.orders.elements;
  slots = w.limit;
  content = w.function;
  level = level_of w.orders;
  top = top_of w;
  made = λ s. false;
  fulls = 0;
  due = None;
  count = λ s. 0;
  generation = λ s. 0;
  is_held = false;
  may_want_memory = false;
  room = 0;
}

-- an order has each number below its length once
pub record IsOrder (order : List ℕ) : Type 0 where
  pub below : (l : ℕ) → l < length order → slice_index order l < length order
  pub once : (l : ℕ) → l < length order → place_of (slice_index order l) order ≡ l
  pub stands : (v : ℕ) → v < length order → place_of v order < length order
  pub there : (v : ℕ) → v < length order → slice_index order (place_of v order) ≡ v

-- A node, with what its children denote: its function is joined of theirs, which lack its variable.
pub record IsNodeOf (w : Content) (node : Node) (f : Denoted) : Type 0 where
  pub kind : Kind
  pub high : ℕ → ValueOf kind
  pub low : ℕ → ValueOf kind
  pub in_range : IsVariable kind (view_of w) node.var
  pub high_is : w.function node.hi ≡ Some (function_of kind high)
  pub low_is : flipped node.lo.complement (w.function node.lo.index) ≡ Some (function_of kind low)
  pub is : f ≡ function_of kind (joined_at kind node.var high low)
  pub high_lacks : Lacks kind high node.var
  pub low_lacks : Lacks kind low node.var
  pub proper : IsProper kind high low

-- the swap of these two is half made
abbrev pub IsHalf : Content → ℕ → ℕ → Type 0
IsHalf w upper lower = w.half ≡ Some (record { upper = upper; lower = lower })

-- the word stands, and so the slot denotes something
abbrev pub IsUsed : Content → ℕ → Type 0
IsUsed w s = (word : Word) × (w.word s ≡ Some word)

-- a node in use names the slot
abbrev pub IsNamed : Content → ℕ → Type 0
IsNamed w s = (t : ℕ) × (node : Node) × (w.word t ≡ Some (Inner node)) × ((node.hi ≡ s) ⊎ (node.lo.index ≡ s))

-- the node of a variable's projection
abbrev pub projection_node : ℕ → Node
projection_node v = record { var = v; hi = true_slot; lo = truth_edge false }

-- the constants, logic one, Empty and Base, and the projections
abbrev pub constant_value : ℕ → ℤ
constant_value zero = pos 1
constant_value (suc zero) = pos 0
constant_value (suc (suc zero)) = pos 1
constant_value (suc (suc (suc zero))) = pos 0
constant_value (suc (suc (suc (suc s)))) = pos 1

abbrev pub IsPermanent : Content → ℕ → Type 0
IsPermanent w s = (s < first_projection) ⊎ ((v : ℕ) × (v < length w.orders.variables) × (w.word s ≡ Some (Inner (projection_node v))))

-- What holds at each moment, in the middle of a swap too. A node's function depends on no variable above its own, but where a swap is half made on the upper one of the two.
pub record IsSound (w : Content) : Type 0 where
  pub variables : IsOrder w.orders.variables
  pub elements : IsOrder w.orders.elements
  pub few_variables : length w.orders.variables ≤ first_element
  pub few_elements : length w.orders.elements ≤ first_element
  pub within : (s : ℕ) → IsUsed w s → s < w.limit
  pub few_slots : w.limit < 2 ^ 23
  pub denotes : (s : ℕ) → IsUsed w s → (f : Denoted) × (w.function s ≡ Some f)
  pub used : (s : ℕ) (f : Denoted) → w.function s ≡ Some f → IsUsed w s
  pub constants : (s : ℕ) → s < first_projection → w.word s ≡ Some (Leaf (constant_value s))
  pub logic_one : w.function true_slot ≡ Some (BddFunction (constant true))
  pub empty_family : w.function empty_slot ≡ Some (ZddFamily empty)
  pub base_family : w.function base_slot ≡ Some (ZddFamily base)
  pub projections : (v : ℕ) → v < length w.orders.variables → (s : ℕ) × (w.word s ≡ Some (Inner (projection_node v)))
  pub nodes : (s : ℕ) (node : Node) (f : Denoted) → w.word s ≡ Some (Inner node) → w.function s ≡ Some f → IsNodeOf w node f
  pub leaves : (s : ℕ) (x : ℤ) → zero_slot ≤ s → w.word s ≡ Some (Leaf x) → (w.function s ≡ Some (AddFunction (constant x))) × (is_value x ≡ true)
  pub apart : (s t : ℕ) (f : Denoted) → w.function s ≡ Some f → w.function t ≡ Some f → s ≡ t
  pub regular : (s : ℕ) (f : ℕ → Bool) → w.function s ≡ Some (BddFunction f)
      → (k : ℕ) → ((v : ℕ) → v < length w.orders.variables → bit k v ≡ true) → f k ≡ true
  pub of_store : (s : ℕ) (k : Kind) (f : ℕ → ValueOf k) → w.function s ≡ Some (function_of k f)
      → ((v : ℕ) → IsBeyond k (view_of w) v → Lacks k f v) × Fits k f
  pub ordered : (s : ℕ) (node : Node) (k : Kind) (f : ℕ → ValueOf k) → w.word s ≡ Some (Inner node) → w.function s ≡ Some (function_of k f)
      → (u : ℕ) → IsVariable k (view_of w) u → level_of w.orders u < level_of w.orders node.var → Lacks k f u ⊎ IsHalf w u node.var
  pub few_counts : (s : ℕ) → w.count s < 2 ^ 32 - 1
  -- a free slot is neither counted nor pinned
  pub uncounted : (s : ℕ) → w.word s ≡ None → w.count s ≡ 0
  pub unpinned : (s : ℕ) → w.word s ≡ None → w.pinned s ≡ false

-- how many slots are in use, and how many of a variable
abbrev pub is_used : Option Word → Bool
is_used None = false
is_used (Some word) = true

abbrev pub is_node_of : ℕ → Option Word → Bool
is_node_of v None = false
is_node_of v (Some (Leaf x)) = false
is_node_of v (Some (Inner node)) = node.var == v

abbrev pub is_leaf : Option Word → Bool
is_leaf None = false
is_leaf (Some (Leaf x)) = true
is_leaf (Some (Inner node)) = false

abbrev pub count_slots : Content → (Option Word → Bool) → ℕ
count_slots w test = length (filter (λ s. test (w.word s)) (range_with_len 0 w.limit))

abbrev pub used_slots : Content → ℕ
used_slots w = count_slots w is_used

abbrev pub nodes_of : Content → ℕ → ℕ
nodes_of w v = count_slots w (is_node_of v)

-- a word, with the complement of the edge to it pushed to both children
abbrev pub opened_of : Word → Bool → Opened
opened_of (Leaf x) c = opened.Leaf (if c then pos 0 else x)
opened_of (Inner node) c = opened.Inner node.var (flip_if c (plain node.hi)) (flip_if c node.lo)
