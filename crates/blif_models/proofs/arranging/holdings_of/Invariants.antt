use Rattle.std.proofs.Common.{◌≡◌, take}
use Rattle.blif_models.specs.Arrangements.{holdings_from}
use Rattle.blif_models.proofs.arranging.holdings_of.Given as goal

abbrev pub invariant-loop-by : goal.invariant-loop-by
invariant-loop-by l = l.found.items ≡ holdings_from 0 (take l.by l.models)
