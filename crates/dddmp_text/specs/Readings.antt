-- A text has one reading: it is that of one dump, or it has one fault. What is written for a dump is read as that dump.
use Rattle.std.specs.Prelude.{◌≡◌, ◌⊎◌, ◌+◌, ◌^◌, ◌<◌, ◌≤◌, ℕ, List, Some, All, length}
use Rattle.edge_bits.specs.declared.limits.TheConstants.{MOST_VARIABLES}
use Rattle.diagram_dumps.specs.declared.dump.Dump.{Dump}
use Rattle.dddmp_text.specs.declared.faults.DddmpFault.{DddmpFault}
use Rattle.dddmp_text.specs.Faults.{IsDddmpText, fault_of}
use Rattle.diagram_dumps.specs.WellMade.{IsWritable}
use Rattle.dddmp_text.specs.Written.{written}

-- each text is that of a dump or has a fault
abbrev pub EachHasOne : Type 0
EachHasOne = (text : List ℕ) → ((dump : Dump) × IsDddmpText text dump) ⊎ ((fault : DddmpFault) × (fault_of text ≡ Some fault))

-- no text is that of two dumps
abbrev pub OneDump : Type 0
OneDump = (text : List ℕ) (one other : Dump) → IsDddmpText text one → IsDddmpText text other → one ≡ other

-- no text has two faults
abbrev pub OneFault : Type 0
OneFault = (text : List ℕ) (one other : DddmpFault) → fault_of text ≡ Some one → fault_of text ≡ Some other → one ≡ other

-- no text of a dump has a fault
abbrev pub DumpOrFault : Type 0
DumpOrFault = (text : List ℕ) (dump : Dump) (fault : DddmpFault) → IsDddmpText text dump → fault_of text ≡ Some fault → ⊥

-- a dump whose numbers may stand in a text
pub record IsSmall (dump : Dump) : Type 0 where
  pub variables : dump.nvars ≤ MOST_VARIABLES
  pub positions : All (λ position. position < 2 ^ 31) dump.permids
  pub nodes : length dump.nodes + 1 < 2 ^ 31
  pub roots : length dump.roots < 2 ^ 31

-- the text that is written for a dump is that dump's
abbrev pub IsReadAgain : Type 0
IsReadAgain = (dump : Dump) → IsWritable dump → IsSmall dump → IsDddmpText (written dump) dump
