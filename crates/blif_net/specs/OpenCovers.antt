-- Covers while their rows are read.
use Rattle.std.specs.Prelude.{◌≡◌, ℕ, ◌==◌, Bool, true, false, ◌&&◌, ◌||◌, not, List, Option, Some, None, length, map, if◌then◌else◌}
use Rattle.std.specs.List.{list_all}
use Rattle.blif_net.specs.declared.covers.OpenCover.{OpenCover}
use Rattle.blif_net.specs.declared.covers.ReadRow.{ReadRow}
use Rattle.blif_net.specs.declared.faults.FaultKind.{FaultKind}
use Rattle.blif_net.specs.declared.faults.FaultKind.TheVariants as kinds
use Rattle.blif_net.specs.declared.faults.BlifStop.{BlifStop}
use Rattle.blif_net.specs.declared.faults.BlifStop.TheVariants as stops
use Rattle.blif_text.specs.Text.{Word}
use Rattle.blif_models.specs.Circuits.{Cover, Row}
use Rattle.blif_wholes.specs.Networks.{is_on, literals_of}
use Rattle.blif_net.specs.CoverTexts.{is_bit, is_literal, row_fault, row_of, row_with, with_row}

-- the stop is want of memory, or this fault
abbrev pub StopIs : Option FaultKind → BlifStop → Type 0
StopIs fault stops.Memory = Unit {0}
StopIs fault (stops.Fault kind) = fault ≡ Some kind

-- what was read is this row
abbrev pub IsRowOf : Row → ReadRow → Type 0
IsRowOf row read = (read.cube ≡ literals_of row) × (read.output ≡ row.output)

-- what was read is the row of these two words, which have the form of one
abbrev pub IsReadRow : Word → Word → ReadRow → Type 0
IsReadRow literals output read = (list_all is_literal literals ≡ true) × (is_bit output ≡ true) × IsRowOf (row_with literals output) read

-- and of these words in a cover with so many inputs
abbrev pub IsRead : ℕ → List Word → ReadRow → Type 0
IsRead ins words read = (row : Row) × (row_of ins words ≡ Some row) × IsRowOf row read

-- why words were not read as a row
abbrev pub CubeStop : Word → BlifStop → Type 0
CubeStop literals stops.Memory = Unit {0}
CubeStop literals (stops.Fault kind) = (kind ≡ kinds.Row) × (list_all is_literal literals ≡ false)

abbrev pub WordsStop : Word → Word → BlifStop → Type 0
WordsStop literals output stops.Memory = Unit {0}
WordsStop literals output (stops.Fault kind) = (kind ≡ kinds.Row) × ((list_all is_literal literals && is_bit output) ≡ false)

abbrev pub RowStop : ℕ → List Word → BlifStop → Type 0
RowStop ins words stops.Memory = Unit {0}
RowStop ins words (stops.Fault kind) = (kind ≡ kinds.Row) × (row_of ins words ≡ None)

-- The rows are those of the cover so far.
pub record IsOpenCoverOf (cover : Cover) (one : OpenCover) : Type 0 where
  pub ins : one.ins ≡ length cover.ins
  pub rows : one.rows ≡ map literals_of cover.rows
  pub on : one.on ≡ is_on cover.rows

-- a row of this output may stand behind those that were read
abbrev pub takes_output : OpenCover → Bool → Bool
takes_output one output = length one.rows == 0 || (if one.on then output else not output)

-- the row of these words was taken
abbrev pub TakesRow : OpenCover → List Word → OpenCover → Type 0
TakesRow old row new = (cover : Cover) → IsOpenCoverOf cover old → (row_fault cover (row_of (length cover.ins) row) ≡ None) × IsOpenCoverOf (with_row cover row) new

-- or it was not, and why
abbrev pub StopsRow : OpenCover → List Word → BlifStop → Type 0
StopsRow old row stop = (cover : Cover) → IsOpenCoverOf cover old → StopIs (row_fault cover (row_of (length cover.ins) row)) stop
