use Rattle.std.proofs.Common.{take}
use Rattle.blif_dump.specs.Calls.{names_in}
use Rattle.blif_dump.specs.Tables.{ArePlaces}
use Rattle.blif_dump.proofs.names.table_of.Given as goal

abbrev pub invariant-loop-place : goal.invariant-loop-place
invariant-loop-place l = ArePlaces l.table (names_in (take l.place l.names))
