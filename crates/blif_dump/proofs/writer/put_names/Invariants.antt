use Rattle.std.proofs.Common.{◌≡◌, ◌++◌, map, take}
use Rattle.blif_dump.specs.Calls.{names_in}
use Rattle.blif_dump.specs.Lines.{spaced}
use Rattle.blif_dump.specs.Names.{called}
use Rattle.blif_dump.specs.Naming.{naming_in}
use Rattle.blif_dump.proofs.writer.put_names.Given as goal

abbrev pub invariant-loop-name : goal.invariant-loop-name
invariant-loop-name l = l.text.items ≡ l.initial.text.items ++ spaced (map (called (naming_in l.naming)) (names_in (take l.name-index l.names)))
