use Rattle.std.proofs.Common.{◌≡◌, take}
use Rattle.blif_models.specs.NumberedGraphs.{held_by}
use Rattle.blif_models.proofs.graph.held_by.Given as goal

abbrev pub invariant-loop-entry : goal.invariant-loop-entry
invariant-loop-entry l = l.held ≡ held_by (take l.entry-index l.entries)
