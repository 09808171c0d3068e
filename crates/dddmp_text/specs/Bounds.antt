-- What each dump has that a text gives.
use Rattle.std.specs.Prelude.{◌≡◌, ℕ, ◌+◌, ◌*◌, ◌<◌, ◌≤◌, List, All, Some, length, nat_abs, slice_get}
use Rattle.edge_bits.specs.declared.edges.Line.{Line}
use Rattle.edge_bits.specs.declared.limits.TheConstants.{MOST_VARIABLES}
use Rattle.diagram_dumps.specs.declared.dump.Dump.{Dump}
use Rattle.dddmp_text.specs.Faults.{IsDddmpText}

-- the children of the line of this index have lower ones, from 1 on
abbrev pub IsEarlier : Line → ℕ → Type 0
IsEarlier line index = (1 ≤ line.hi) × (line.hi < index) × (1 ≤ nat_abs line.lo) × (nat_abs line.lo < index)

-- Each line has a variable of the dump, and earlier children; each root is the constant or a line, or the complement of one.
pub record IsBounded (dump : Dump) : Type 0 where
  pub variables : dump.nvars ≤ MOST_VARIABLES
  pub below : All (λ line. line.var < dump.nvars) dump.nodes
  pub earlier : (place : ℕ) (line : Line) → slice_get dump.nodes place ≡ Some line → IsEarlier line (place + 2)
  pub roots : All (λ root. (1 ≤ nat_abs root) × (nat_abs root ≤ length dump.nodes + 1)) dump.roots

-- each dump of a text is such a one
abbrev pub DumpsAreBounded : Type 0
DumpsAreBounded = (text : List ℕ) (dump : Dump) → IsDddmpText text dump → IsBounded dump

-- the text has five bytes for each node line, but for the last line feed
abbrev pub LinesHaveBytes : Type 0
LinesHaveBytes = (text : List ℕ) (dump : Dump) → IsDddmpText text dump → 5 * length dump.nodes ≤ length text + 1
