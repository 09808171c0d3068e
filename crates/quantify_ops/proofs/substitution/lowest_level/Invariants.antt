use Rattle.std.proofs.Common.{take}
use Rattle.std.specs.List.{All}
use Rattle.node_store.specs.Views.{Kept}
use Rattle.quantify_ops.specs.Substituted.{ReachesDownTo}
use Rattle.quantify_ops.proofs.substitution.lowest_level.Given as goal

abbrev pub invariant-loop-pair : goal.invariant-loop-pair
invariant-loop-pair g l =
    record { kept : Kept (g.G.Grow.view l.fn.store) (g.G.Grow.view l.store); reach : All (ReachesDownTo (g.G.Grow.view l.store) l.lowest) (take l.pair-index l.pairs) }
