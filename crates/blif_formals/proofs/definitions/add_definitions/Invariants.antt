use Rattle.std.proofs.Common.{◌≡◌, ◌++◌, take}
use Rattle.std.specs.List.{flat_map}
use Rattle.blif_formals.specs.Definitions.{definitions_by}
use Rattle.blif_formals.proofs.definitions.add_definitions.Given as goal

abbrev pub invariant-loop-entry : goal.invariant-loop-entry
invariant-loop-entry l = l.found.items ≡ l.initial.found.items ++ flat_map (definitions_by l.interfaces) (take l.entry-index l.entries)
