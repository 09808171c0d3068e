use Rattle.std.proofs.Common.{◌≡◌, map, take}
use Rattle.function_laws.specs.SiftedOrders.{place_of}
use Rattle.diagram_dumps.proofs.listings.places_of.Given as goal

abbrev pub invariant-loop-var : goal.invariant-loop-var
invariant-loop-var l = l.found ≡ map (λ v. place_of v l.order) (take l.var-index l.vars)
