use Rattle.std.proofs.Common.{◌≡◌, ◌++◌, take}
use Rattle.blif_models.specs.Arrangements.{holdings_by}
use Rattle.blif_models.proofs.arranging.add_holdings.Given as goal

abbrev pub invariant-loop-entry : goal.invariant-loop-entry
invariant-loop-entry l = l.found.items ≡ l.initial.found.items ++ holdings_by l.by (take l.entry-index l.entries)
