use Rattle.std.proofs.Common.{◌≡◌, ◌++◌, take}
use Rattle.blif_dump.specs.Calls.{names_in}
use Rattle.blif_dump.specs.Lines.{text_of}
use Rattle.blif_dump.specs.Multiplexers.{nodes_lines}
use Rattle.blif_dump.specs.Naming.{naming_in}
use Rattle.blif_dump.proofs.writer.put_nodes.Given as goal

abbrev pub invariant-loop-place : goal.invariant-loop-place
invariant-loop-place l = l.text.items ≡ l.initial.text.items ++ text_of (nodes_lines (naming_in l.naming) (names_in l.inputs) (take l.place l.nodes))
