use Rattle.std.proofs.Common.{◌≡◌, ◌++◌, take}
use Rattle.blif_dump.specs.Calls.{names_in}
use Rattle.blif_dump.specs.Lines.{text_of}
use Rattle.blif_dump.specs.Multiplexers.{outputs_lines}
use Rattle.blif_dump.specs.Naming.{naming_in}
use Rattle.blif_dump.proofs.writer.put_outputs.Given as goal

abbrev pub invariant-loop-place : goal.invariant-loop-place
invariant-loop-place l = l.text.items ≡ l.initial.text.items ++ text_of (outputs_lines (naming_in l.naming) (names_in l.outputs) (take l.place l.roots))
