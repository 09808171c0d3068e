-- The value of an edge at an assignment, in a list of node words.
use Rattle.std.specs.Prelude.{◌≡◌, ℕ, suc, zero, ◌+◌, ◌-◌, ◌==◌, Bool, true, false, not, ◌&&◌, if◌then◌else◌, ℤ, pos, List, Option, Some, None, slice_index, option_map}
use Rattle.edge_bits.specs.declared.edges.Edge.{Edge}
use Rattle.edge_bits.specs.declared.words.Node.{Node}
use Rattle.edge_bits.specs.declared.words.Word.{Word}
use Rattle.edge_bits.specs.declared.words.Word.TheVariants.{Inner, Leaf}
use Rattle.edge_bits.specs.Words.{unpack_of}
use Rattle.edge_bits.specs.Assignments.{bit, set_bit}
use Rattle.edge_bits.specs.Permanent.{first_element}

-- what the slots hold, by their words: none where a slot isn't in use
abbrev pub slots_of : List ℕ → ℕ → Option Word
slots_of words index = unpack_of (slice_index words index)

-- a then arc: it is never complemented
abbrev pub plain : ℕ → Edge
plain index = record { index = index; complement = false }

-- the opposite, where the first is true
abbrev pub flipped : Bool → Bool → Bool
flipped complement value = if complement then not value else value

-- the element of a node of a ZDD
abbrev pub element_of : ℕ → ℕ
element_of var = var - first_element

-- A BDD at k: the only leaf is one; a node goes on by the bit of its variable
abbrev pub bdd_step : (Edge → Option Bool) → ℕ → Option Word → Option Bool
bdd_step next k None = None
bdd_step next k (Some (Leaf value)) = Some true
bdd_step next k (Some (Inner node)) = next (if bit k node.var then plain node.hi else node.lo)

-- its value after at most `limit` words, the opposite after a complemented arc
unfoldable pub read_bdd : ℕ → (ℕ → Option Word) → Edge → ℕ → Option Bool
read_bdd zero slots edge k = None
read_bdd (suc limit) slots edge k =
    option_map (flipped edge.complement) (bdd_step (λ next. read_bdd limit slots next k) k (slots edge.index))

-- An ADD at k: the leaf's value
abbrev pub add_step : (Edge → Option ℤ) → ℕ → Option Word → Option ℤ
add_step next k None = None
add_step next k (Some (Leaf value)) = Some value
add_step next k (Some (Inner node)) = next (if bit k node.var then plain node.hi else node.lo)

unfoldable pub read_add : ℕ → (ℕ → Option Word) → Edge → ℕ → Option ℤ
read_add zero slots edge k = None
read_add (suc limit) slots edge k = add_step (λ next. read_add limit slots next k) k (slots edge.index)

-- A ZDD at a combination: a then arc takes its element off; at the leaf nothing may be left, since elements that the arcs pass over must be absent
abbrev pub zdd_step : (Edge → ℕ → Option Bool) → ℕ → Option Word → Option Bool
zdd_step next left None = None
zdd_step next left (Some (Leaf value)) = Some (is_one value && left == 0)
  where
    is_one : ℤ → Bool
    is_one (pos n) = n == 1
    is_one _ = false
zdd_step next left (Some (Inner node)) =
    if bit left (element_of node.var) then next (plain node.hi) (set_bit left (element_of node.var) false) else next node.lo left

unfoldable pub read_zdd : ℕ → (ℕ → Option Word) → Edge → ℕ → Option Bool
read_zdd zero slots edge left = None
read_zdd (suc limit) slots edge left = zdd_step (λ next rest. read_zdd limit slots next rest) left (slots edge.index)

-- the edge denotes the function, or the family, in a manager of n variables, or m elements
abbrev pub DenotesBdd : ℕ → (ℕ → Option Word) → Edge → (ℕ → Bool) → Type 0
DenotesBdd n slots edge f = (k : ℕ) → read_bdd (n + 1) slots edge k ≡ Some (f k)

abbrev pub DenotesAdd : ℕ → (ℕ → Option Word) → Edge → (ℕ → ℤ) → Type 0
DenotesAdd n slots edge f = (k : ℕ) → read_add (n + 1) slots edge k ≡ Some (f k)

abbrev pub DenotesZdd : ℕ → (ℕ → Option Word) → Edge → (ℕ → Bool) → Type 0
DenotesZdd m slots edge p = (a : ℕ) → read_zdd (m + 1) slots edge a ≡ Some (p a)

-- a slot is reached from another: arcs lead from that one to it
pub data IsReached (slots : ℕ → Option Word) (from : ℕ) : ℕ → Type 0 where
  itself : IsReached slots from from
  then_child : (s : ℕ) (node : Node) → IsReached slots from s → slots s ≡ Some (Inner node) → IsReached slots from node.hi
  else_child : (s : ℕ) (node : Node) → IsReached slots from s → slots s ≡ Some (Inner node) → IsReached slots from node.lo.index
