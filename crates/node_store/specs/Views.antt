-- What a caller knows of a store.
use Rattle.std.specs.Prelude.{◌≡◌, ◌≢◌, ℕ, ◌+◌, ◌^◌, ◌<◌, ◌≤◌, Bool, true, false, Option, Some, ℤ, pos, ◌⊎◌}
use Rattle.edge_bits.specs.Permanent.{base_edge, base_slot, empty_edge, empty_slot, first_element, one_slot, true_slot, truth_edge, zero_slot}
use Rattle.edge_bits.specs.declared.edges.Edge.{Edge}
use Rattle.computed_cache.specs.declared.Key.{Key}
use Rattle.edge_bits.specs.declared.edges.Kind.{Kind}
use Rattle.edge_bits.specs.declared.edges.Kind.TheVariants.{Bdd, Add, Zdd}
use Rattle.function_laws.specs.Values.{constant, projection}
use Rattle.function_laws.specs.Families.{empty, base}
use Rattle.function_laws.specs.Kinds.{Denoted, BddFunction, AddFunction, ZddFamily, ValueOf, function_of, values_of, joined_at, Lacks, Fits, flipped}
use Rattle.node_store.specs.declared.grow.Opened.{Opened}
use Rattle.node_store.specs.declared.grow.Opened.TheVariants.{Inner, Leaf}

pub record View : Type 0 where
  -- how many variables, and how many elements
  pub vars : ℕ
  pub elements : ℕ
  -- how many slots there are, free or not
  pub slots : ℕ
  -- what each slot denotes
  pub content : ℕ → Option Denoted
  -- the level of a node's variable number: of a variable in the one order, of an element in the other
  pub level : ℕ → ℕ
  -- the level of a slot's node; of a leaf the number of variables, or of elements
  pub top : ℕ → ℕ
  -- the slots that this value itself stored
  pub made : ℕ → Bool
  -- how often the answer was Full, and the function that was due at the last of them
  pub fulls : ℕ
  pub due : Option Denoted
  -- how often rows, cells and pins hold each slot
  pub count : ℕ → ℕ
  -- how often each slot was freed, modulo 2^32
  pub generation : ℕ → ℕ
  -- whether a sweep, a half-made swap or a pin is on
  pub is_held : Bool
  -- whether it may want memory
  pub may_want_memory : Bool
  -- for how many levels the scratch that it lends has room
  pub room : ℕ

-- the number of levels of a kind's order
abbrev pub levels : Kind → View → ℕ
levels Bdd w = w.vars
levels Add w = w.vars
levels Zdd w = w.elements

-- a node's variable number of the kind, in the store
abbrev pub IsVariable : Kind → View → ℕ → Type 0
IsVariable Bdd w v = (v < first_element) × (v < w.vars)
IsVariable Add w v = (v < first_element) × (v < w.vars)
IsVariable Zdd w v = (first_element ≤ v) × (v < first_element + w.elements)

-- one beyond those of the store
abbrev pub IsBeyond : Kind → View → ℕ → Type 0
IsBeyond Bdd w v = w.vars ≤ v
IsBeyond Add w v = w.vars ≤ v
IsBeyond Zdd w v = first_element + w.elements ≤ v

-- what an edge denotes
abbrev pub function_at : View → Edge → Option Denoted
function_at w e = flipped e.complement (w.content e.index)

abbrev pub values_at : (k : Kind) → View → Edge → ℕ → ValueOf k
values_at k w e = values_of k (function_at w e)

abbrev pub bdd_at : View → Edge → ℕ → Bool
bdd_at w e = values_at Bdd w e

abbrev pub add_at : View → Edge → ℕ → ℤ
add_at w e = values_at Add w e

abbrev pub family_at : View → Edge → ℕ → Bool
family_at w e = values_at Zdd w e

pub record Denotes (k : Kind) (w : View) (e : Edge) (f : ℕ → ValueOf k) : Type 0 where
  pub is : function_at w e ≡ Some (function_of k f)
  pub beyond : (v : ℕ) → IsBeyond k w v → Lacks k f v
  pub fits : Fits k f

-- the edge denotes a function of the kind
abbrev pub Is : Kind → View → Edge → Type 0
Is k w e = Denotes k w e (values_at k w e)

-- the edge denotes a function
abbrev pub IsFunction : View → Edge → Type 0
IsFunction w e = (k : Kind) × Is k w e

-- free of the variable and of those above it
abbrev pub IsBelow : (k : Kind) → View → ℕ → (ℕ → ValueOf k) → Type 0
IsBelow k w v f = (u : ℕ) → IsVariable k w u → w.level u ≤ w.level v → Lacks k f u

-- The store only grew: each slot that denoted a function still does.
pub record Grown (old new : View) : Type 0 where
  pub vars : new.vars ≡ old.vars
  pub elements : new.elements ≡ old.elements
  pub slots : new.slots ≡ old.slots
  pub level : new.level ≡ old.level
  pub content : (s : ℕ) (f : Denoted) → old.content s ≡ Some f → new.content s ≡ Some f
  pub top : (s : ℕ) (f : Denoted) → old.content s ≡ Some f → new.top s ≡ old.top s
  pub made : (s : ℕ) → old.made s ≡ true → new.made s ≡ true
  pub fulls : old.fulls ≤ new.fulls
  pub counts : new.count ≡ old.count
  pub generations : new.generation ≡ old.generation
  pub holds : new.is_held ≡ old.is_held
  pub wants : new.may_want_memory ≡ true → old.may_want_memory ≡ true

-- It grew, and nothing was made or refused.
pub record Kept (old new : View) : Type 0 where
  pub grown : Grown old new
  pub made : new.made ≡ old.made
  pub fulls : new.fulls ≡ old.fulls
  pub due : new.due ≡ old.due

-- The count of answers Full rose, or stands at the end of its type.
abbrev pub Rose : View → View → Type 0
Rose old new = new.fulls + 1 < 2 ^ 64 → old.fulls < new.fulls

-- a function splits at a variable into what two edges denote
pub record Splits (k : Kind) (w : View) (v : ℕ) (f : ℕ → ValueOf k) (hi lo : Edge) : Type 0 where
  pub hi_is : Is k w hi
  pub lo_is : Is k w lo
  pub is : f ≡ joined_at k v (values_at k w hi) (values_at k w lo)
  pub hi_below : IsBelow k w v (values_at k w hi)
  pub lo_below : IsBelow k w v (values_at k w lo)

-- what is asked of a node's variable and children
pub record CanMake (k : Kind) (w : View) (v : ℕ) (hi lo : Edge) : Type 0 where
  pub in_range : IsVariable k w v
  pub hi_is : Is k w hi
  pub lo_is : Is k w lo
  pub hi_below : IsBelow k w v (values_at k w hi)
  pub lo_below : IsBelow k w v (values_at k w lo)

-- the values of a node with these children
abbrev pub node_values : (k : Kind) → View → ℕ → Edge → Edge → ℕ → ValueOf k
node_values k w v hi lo = joined_at k v (values_at k w hi) (values_at k w lo)

-- the children are not such that the node is one of them
abbrev pub IsProper : (k : Kind) → (ℕ → ValueOf k) → (ℕ → ValueOf k) → Type 0
IsProper Bdd f g = f ≢ g
IsProper Add f g = f ≢ g
IsProper Zdd p q = p ≢ empty

pub record IsInner (k : Kind) (w : View) (e : Edge) (f : ℕ → ValueOf k) (v : ℕ) (hi lo : Edge) : Type 0 where
  pub in_range : IsVariable k w v
  pub splits : Splits k w v f hi lo
  pub proper : IsProper k (values_at k w hi) (values_at k w lo)
  pub here : w.top e.index ≡ w.level v
  pub within : w.level v < levels k w
  pub alone : (u : ℕ) → IsVariable k w u → w.level u ≡ w.level v → u ≡ v
  pub hi_top : w.level v < w.top hi.index
  pub lo_top : w.level v < w.top lo.index

-- a leaf of the kind, with its edge and its value
pub data IsLeafOf : (k : Kind) → Edge → (ℕ → ValueOf k) → ℤ → Type 0 where
  logic_one : IsLeafOf Bdd (truth_edge true) (constant true) (pos 1)
  logic_zero : IsLeafOf Bdd (truth_edge false) (constant false) (pos 0)
  number : (e : Edge) (x : ℤ) → IsLeafOf Add e (constant x) x
  no_member : IsLeafOf Zdd empty_edge empty (pos 0)
  only_base : IsLeafOf Zdd base_edge base (pos 1)

pub record IsLeaf (k : Kind) (w : View) (e : Edge) (f : ℕ → ValueOf k) (x : ℤ) : Type 0 where
  pub leaf : IsLeafOf k e f x
  pub here : w.top e.index ≡ levels k w

-- what opening an edge answers
abbrev pub Opens : (k : Kind) → View → Edge → (ℕ → ValueOf k) → Opened → Type 0
Opens k w e f (Inner v hi lo) = IsInner k w e f v hi lo
Opens k w e f (Leaf x) = IsLeaf k w e f x

-- what stands in the permanent slots
pub record Permanent (w : View) : Type 0 where
  pub one : w.content true_slot ≡ Some (BddFunction (constant true))
  pub empty : w.content empty_slot ≡ Some (ZddFamily empty)
  pub base : w.content base_slot ≡ Some (ZddFamily base)
  pub add_zero : w.content zero_slot ≡ Some (AddFunction (constant (pos 0)))
  pub add_one : w.content one_slot ≡ Some (AddFunction (constant (pos 1)))
  pub one_top : w.top true_slot ≡ w.vars
  pub empty_top : w.top empty_slot ≡ w.elements
  pub base_top : w.top base_slot ≡ w.elements
  pub add_zero_top : w.top zero_slot ≡ w.vars
  pub add_one_top : w.top one_slot ≡ w.vars

-- the edge is that of a variable's projection
pub record IsProjection (w : View) (v : ℕ) (e : Edge) : Type 0 where
  pub denotes : Denotes Bdd w e (projection v)
  pub top : w.top e.index ≡ w.level v

-- what is asked for the two parts of a function at a variable
pub record CanPart (k : Kind) (w : View) (e : Edge) (v : ℕ) : Type 0 where
  pub edge : Is k w e
  pub in_range : IsVariable k w v
  pub above : w.level v ≤ w.top e.index
  pub within : w.level v < levels k w

-- a function splits at a variable that is at or above its top
pub record PartsAt (k : Kind) (w : View) (e : Edge) (f : ℕ → ValueOf k) (v : ℕ) (hi lo : Edge) : Type 0 where
  pub splits : Splits k w v f hi lo
  pub hi_top : w.level v < w.top hi.index
  pub lo_top : w.level v < w.top lo.index

-- the variable is the upper one of two edges' tops
pub record IsTop (k : Kind) (w : View) (f g : Edge) (v : ℕ) : Type 0 where
  pub in_range : IsVariable k w v
  pub within : w.level v < levels k w
  pub above_f : w.level v ≤ w.top f.index
  pub above_g : w.level v ≤ w.top g.index
  pub touches : (w.level v ≡ w.top f.index) ⊎ (w.level v ≡ w.top g.index)

pub record AreTwo (k : Kind) (w : View) (f g : Edge) : Type 0 where
  pub first : Is k w f
  pub second : Is k w g

-- not both are leaves
abbrev pub NotBothLeaves : Kind → View → Edge → Edge → Type 0
NotBothLeaves k w f g = (x y : ℤ) → IsLeaf k w f (values_at k w f) x → IsLeaf k w g (values_at k w g) y → ⊥

-- what a computed table may be asked
pub record IsKey (w : View) (key : Key) : Type 0 where
  pub least : 1 ≤ key.op
  pub most : key.op ≤ 62
  pub f : IsFunction w key.f
  pub g : IsFunction w key.g
  pub h : IsFunction w key.h
