-- How far a walk over the nodes of a store has come, which gives each node its number.
use Rattle.std.specs.Prelude.{◌≡◌, ◌⊎◌, ℕ, zero, suc, ◌+◌, ◌-◌, ◌*◌, ◌<◌, ◌≤◌, ◌==◌, Bool, true, false, List, [], ◌∷◌, ◌++◌, ℤ, pos, negsuc, Some, length, slice_get, slice_index}
use Rattle.std.specs.List.{count_by}
use Rattle.edge_bits.specs.declared.edges.Edge.{Edge}
use Rattle.edge_bits.specs.declared.edges.Line.{Line}
use Rattle.edge_bits.specs.declared.edges.Kind.TheVariants.{Bdd}
use Rattle.edge_bits.specs.declared.words.Node.{Node}
use Rattle.edge_bits.specs.declared.words.Word.TheVariants.{Inner}
use Rattle.edge_bits.specs.Reading.{plain}
use Rattle.diagram_dumps.specs.declared.dump.Dump.{Dump}
use Rattle.diagram_dumps.specs.WellMade.{Numbers, NumbersAll}
use Rattle.node_store.specs.Views.{Is}
use Rattle.node_slots.specs.Stores.{Plain, plain_view, slots}
use Rattle.diagram_lists.specs.declared.walk.Walk.{Walk}

-- the number of a slot, by the list of all; 0 if it has none yet
abbrev pub number : List ℕ → ℕ → ℕ
number numbers s = slice_index numbers s

-- an index, negative where it is complemented
abbrev pub signed_index : Bool → ℕ → ℤ
signed_index false index = pos index
signed_index true zero = pos 0
signed_index true (suc lower) = negsuc lower

abbrev pub index_of : List ℕ → Edge → ℤ
index_of numbers e = signed_index e.complement (number numbers e.index)

-- the line of a node whose children have numbers
abbrev pub line_of : List ℕ → Node → Line
line_of numbers node = record { var = node.var; hi = number numbers node.hi; lo = index_of numbers node.lo }

-- A slot's node is a BDD's, and stands on the line of its number, above the lines of its children.
pub record HasLine (p : Plain) (numbers : List ℕ) (lines : List Line) (s : ℕ) : Type 0 where
  pub node : Node
  pub word : slots p s ≡ Some (Inner node)
  pub is_bdd : Is Bdd (plain_view p) (plain s)
  pub later : 2 ≤ number numbers s
  pub line : slice_get lines (number numbers s - 2) ≡ Some (line_of numbers node)
  pub hi_has : 1 ≤ number numbers node.hi
  pub hi_before : number numbers node.hi < number numbers s
  pub lo_has : 1 ≤ number numbers node.lo.index
  pub lo_before : number numbers node.lo.index < number numbers s

-- how many slots have no number
abbrev pub unnumbered : List ℕ → ℕ
unnumbered numbers = count_by (λ n. n == 0) numbers

-- The constant has number 1. Each other slot with a number has its line, and each line a slot.
pub record IsNumbering (p : Plain) (numbers : List ℕ) (lines : List Line) : Type 0 where
  pub as_many : length numbers ≡ length p.words
  pub constant : number numbers 0 ≡ 1
  pub nodes : (s : ℕ) → 1 ≤ number numbers s → (s ≡ 0) ⊎ HasLine p numbers lines s
  pub each : (i : ℕ) → i < length lines → (s : ℕ) × (number numbers s ≡ i + 2)
  pub count : length lines + 1 + unnumbered numbers ≡ length numbers

-- numbers and lines were added
pub record Extends (old_numbers new_numbers : List ℕ) (old_lines new_lines : List Line) : Type 0 where
  pub numbers : (s : ℕ) → 1 ≤ number old_numbers s → number new_numbers s ≡ number old_numbers s
  pub lines : (i : ℕ) (line : Line) → slice_get old_lines i ≡ Some line → slice_get new_lines i ≡ Some line

-- the dump's first lines
abbrev pub Begins : List Line → Dump → Type 0
Begins lines dump = (i : ℕ) (line : Line) → slice_get lines i ≡ Some line → slice_get dump.nodes i ≡ Some line

-- in each dump with these first lines a walk from the index leads from the one number to the other
abbrev pub Leads : List Line → ℕ → ℕ → ℕ → Type 0
Leads lines from index to = (dump : Dump) → Begins lines dump → Numbers dump from index to

-- and so a walk from each root in turn
abbrev pub LeadsAll : List Line → ℕ → List ℤ → ℕ → Type 0
LeadsAll lines from roots to = (dump : Dump) → Begins lines dump → NumbersAll dump from roots to

-- the number that comes next
abbrev pub next : List Line → ℕ
next lines = 2 + length lines

-- a slot of a BDD that has no number yet
pub record IsOpen (p : Plain) (numbers : List ℕ) (s : ℕ) (node : Node) : Type 0 where
  pub word : slots p s ≡ Some (Inner node)
  pub is_bdd : Is Bdd (plain_view p) (plain s)
  pub fresh : number numbers s ≡ 0

-- How far a slot has come that was met when `from` came next: its children aren't walked yet, or the first, or both.
pub data IsMet (numbers : List ℕ) (lines : List Line) (node : Node) (from : ℕ) : Type 0 where
  at_first : from ≡ next lines → IsMet numbers lines node from
  behind_hi : 1 ≤ number numbers node.hi → Leads lines from (number numbers node.hi) (next lines) → IsMet numbers lines node from
  behind_lo : (middle : ℕ) → 1 ≤ number numbers node.hi → Leads lines from (number numbers node.hi) middle
      → 1 ≤ number numbers node.lo.index → Leads lines middle (number numbers node.lo.index) (next lines) → IsMet numbers lines node from

-- What stands below a slot on the stack: the root was met when `start` came next, the slot when `from` did; each one was
-- met from the one below.
pub data IsPath (p : Plain) (numbers : List ℕ) (lines : List Line) (start root : ℕ) : List ℕ → ℕ → ℕ → Type 0 where
  bottom : IsPath p numbers lines start root [] root start
  by_hi : {stack front : List ℕ} {s from : ℕ} (node : Node) → stack ≡ front ++ s ∷ [] → IsOpen p numbers s node
      → IsPath p numbers lines start root front s from → IsPath p numbers lines start root stack node.hi from
  by_lo : {stack front : List ℕ} {s from to : ℕ} (node : Node) → stack ≡ front ++ s ∷ [] → IsOpen p numbers s node
      → 1 ≤ number numbers node.hi → Leads lines from (number numbers node.hi) to
      → IsPath p numbers lines start root front s from → IsPath p numbers lines start root stack node.lo.index to

-- the stack is empty and the root has its number, or it leads down to an open slot
pub data IsOnWay (p : Plain) (numbers : List ℕ) (lines : List Line) (start root : ℕ) (stack : List ℕ) : Type 0 where
  arrived : stack ≡ [] → 1 ≤ number numbers root → Leads lines start (number numbers root) (next lines) → IsOnWay p numbers lines start root stack
  at_top : (front : List ℕ) (top from : ℕ) (node : Node) → stack ≡ front ++ top ∷ [] → IsOpen p numbers top node
      → IsMet numbers lines node from → IsPath p numbers lines start root front top from → IsOnWay p numbers lines start root stack

-- how many steps a walk may still take
abbrev pub steps_left : Plain → List ℕ → List ℕ → ℕ
steps_left p numbers stack =
    let height = length p.variable_levels in
    unnumbered numbers * (height + 2) + (height + 1 - length stack)

abbrev pub IsWalk : Plain → Walk → Type 0
IsWalk p walk = IsNumbering p walk.numbers.items walk.lines

abbrev pub Extended : Walk → Walk → Type 0
Extended old new = Extends old.numbers.items new.numbers.items old.lines new.lines

abbrev pub OnWay : Plain → Walk → ℕ → ℕ → Type 0
OnWay p walk start root = IsOnWay p walk.numbers.items walk.lines start root walk.stack.items
