use Rattle.std.proofs.Common.{◌≡◌}
use Rattle.diagram_dumps.specs.Listings.{ids_of}
use Rattle.diagram_dumps.proofs.listings.ids_of.Given as goal

abbrev pub invariant-loop-var : goal.invariant-loop-var
invariant-loop-var l = l.ids ≡ ids_of l.var l.lines
