-- When the links lead through the nodes of each variable.
use Rattle.std.specs.Prelude.{◌≡◌, ◌≢◌, ℕ, zero, suc, ◌<◌, ◌≤◌, ◌^◌, ◌⊎◌, Bool, true, false, List, length, slice_index, IfNone, IfSome, Option, Some, None}
use Rattle.edge_bits.specs.declared.words.Node.{Node}
use Rattle.edge_bits.specs.declared.words.Word.{Word}
use Rattle.edge_bits.specs.declared.words.Word.TheVariants.{Inner, Leaf}
use Rattle.held_slots.specs.declared.notes.Cursor.{Cursor}
use Rattle.held_slots.specs.Notes.{Chain, link_in, mark_in, pin_in}
use Rattle.held_slots.specs.SlotSets.{Gathered, IsNext, has, is_gathered, is_same}

-- the slot has a node of the variable
abbrev pub HasNode : (ℕ → Option Word) → ℕ → ℕ → Type 0
HasNode word v s = (node : Node) × (word s ≡ Some (Inner node)) × (node.var ≡ v)

-- The link leads from a slot on to the first that may have a node of the variable, which is of the variable's chain; where it is 0 no slot from there on has one.
pub record Leads (word : ℕ → Option Word) (chain : ℕ → ℕ) (reach v from link : ℕ) : Type 0 where
  pub none : link ≡ 0 → (s : ℕ) → from ≤ s → HasNode word v s → ⊥
  pub some : (t : ℕ) → link ≡ suc t → (from ≤ t) × (t < reach) × (chain t ≡ v) × ((s : ℕ) → from ≤ s → s < t → HasNode word v s → ⊥)

-- The links of the variables that are not gathered. Each slot is of one variable's chain, or of none (2^15). A chain rises, and no node of its variable is passed over. A slot of a chain that has no node of its variable is free: it was freed since the slots were linked.
pub record AreLinked (word : ℕ → Option Word) (gathered : ℕ → Bool) (links firsts : List ℕ) (stale : Bool) (cursor : Cursor) : Type 0 where
  pub chain : ℕ → ℕ
  pub first : (v : ℕ) → v < 2 ^ 15 → gathered v ≡ false → Leads word chain (length links) v 0 (slice_index firsts v)
  pub next : (s : ℕ) → s < length links → chain s < 2 ^ 15 → gathered (chain s) ≡ false → Leads word chain (length links) (chain s) (suc s) (slice_index links s)
  pub stands : gathered cursor.var ≡ false → Leads word chain (length links) cursor.var cursor.from cursor.link
  pub own : (s : ℕ) → chain s < 2 ^ 15 → gathered (chain s) ≡ false → HasNode word (chain s) s ⊎ ((stale ≡ true) × (word s ≡ None))

-- the variable of a word's node
abbrev pub variable_in : Option Word → ℕ
variable_in None = 2 ^ 15
variable_in (Some (Leaf x)) = 2 ^ 15
variable_in (Some (Inner node)) = node.var

-- the chain of a slot's own variable
abbrev pub chain_of : (ℕ → Option Word) → ℕ → ℕ
chain_of word s = variable_in (word s)

-- the variable of a word's node, or none
abbrev pub variable_of : Option Word → Option ℕ
variable_of None = None
variable_of (Some (Leaf x)) = None
variable_of (Some (Inner node)) = Some node.var

-- the slots with a node of its variable, and no others
abbrev pub IsExact : (ℕ → Option Word) → Gathered → Type 0
IsExact word g = (s : ℕ) → has g.slots s ≡ is_same g.variable (variable_of (word s))

-- where it says that the slots are linked, they are, but for those that are gathered
abbrev pub IsLinkedTo : (ℕ → Option Word) → Chain → Type 0
IsLinkedTo word c = c.linked ≡ true → AreLinked word (is_gathered c.older c.newer) c.links c.firsts c.stale c.cursor × IsExact word c.older × IsExact word c.newer

-- the slot that a link leads to
abbrev pub led_to : ℕ → Option ℕ
led_to zero = None
led_to (suc slot) = Some slot

-- Notes in which the numbers that pass are linked, by rising numbers, from a first link on. Nothing else was noted.
pub record IsLinkedAgain (passes : ℕ → Bool) (old new : List ℕ) (link : ℕ) : Type 0 where
  pub first : IsNext passes 0 (led_to link)
  pub links : (s : ℕ) → passes s ≡ true → IsNext passes (suc s) (led_to (link_in (slice_index new s)))
  pub others : (s : ℕ) → passes s ≡ false → link_in (slice_index new s) ≡ link_in (slice_index old s)
  pub marks : (s : ℕ) → mark_in (slice_index new s) ≡ mark_in (slice_index old s)
  pub pins : (s : ℕ) → pin_in (slice_index new s) ≡ pin_in (slice_index old s)

-- From this link on, the links in the notes lead through all nodes of the variable.
pub record LeadsThrough (word : ℕ → Option Word) (notes : List ℕ) (limit v link : ℕ) : Type 0 where
  pub chain : ℕ → ℕ
  pub first : Leads word chain limit v 0 link
  pub next : (s : ℕ) → s < limit → chain s ≡ v → Leads word chain limit v (suc s) (link_in (slice_index notes s))

-- the least slot from this one on with a node of the variable, or none
pub record IsNextNode (word : ℕ → Option Word) (v from : ℕ) (next : Option ℕ) : Type 0 where
  pub found : IfSome next (λ s. (from ≤ s) × HasNode word v s)
  pub least : IfSome next (λ s. (t : ℕ) → from ≤ t → t < s → HasNode word v t → ⊥)
  pub none : IfNone next ((t : ℕ) → from ≤ t → HasNode word v t → ⊥)

-- one slot's word is another
abbrev pub IsChangedAt : (ℕ → Option Word) → (ℕ → Option Word) → ℕ → Type 0
IsChangedAt old new slot = (s : ℕ) → s ≢ slot → new s ≡ old s
