use Rattle.std.proofs.Common.{◌≡◌, take}
use Rattle.diagram_lists.proofs.lister.order_of.Given as goal

abbrev pub invariant-loop-level : goal.invariant-loop-level
invariant-loop-level l = l.order ≡ take l.level l.store.variables_at
