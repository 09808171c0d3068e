-- What the lines of a well made dump are, as functions.
use Rattle.std.proofs.Common.{◌≡◌, ℕ, ◌+◌, true, Some, slice_get}
use Rattle.edge_bits.specs.declared.edges.Line.{Line}
use Rattle.diagram_dumps.specs.declared.dump.Dump.{Dump}
use Rattle.diagram_dumps.specs.Dumps.{line_value}
use Rattle.diagram_dumps.specs.WellMade.{IsWellMade}
use Rattle.diagram_dumps.proofs.Walks.{IsEarlier, are_earlier}
use Rattle.function_laws.specs.Values.{choice, constant}
use Rattle.diagram_dumps.proofs.LineValues as values
pub use Rattle.diagram_dumps.proofs.LineValues.{Indexed, at_line, at_one, indexed, low_of, signed_value, within}

module _ (dump : Dump) (well : IsWellMade dump) where
  pub earlier : (place : ℕ) (line : Line) → slice_get dump.nodes place ≡ Some line → IsEarlier line (place + 2)
  earlier place line at = are_earlier dump well place line at (within dump place line at)

  pub one_is : line_value dump 1 ≡ constant true
  one_is = values.one_is dump earlier

  pub line_is : (place : ℕ) (line : Line) → slice_get dump.nodes place ≡ Some line
      → line_value dump (place + 2) ≡ choice line.var (line_value dump line.hi) (low_of dump line)
  line_is = values.line_is dump earlier
