use Rattle.std.proofs.Common.{ℕ, ◌<◌}
use Rattle.node_store.specs.Views.{Kept}
use Rattle.cover_isop.proofs.operations.tell_levels.Given as goal

abbrev pub invariant-loop-var : goal.invariant-loop-var
invariant-loop-var g l =
    Kept (g.G.Grow.view l.fn.store) (g.G.Grow.view l.store)
    × ((v : ℕ) → v < l.var → (g.G.Grow.view l.store).level v < (g.G.Grow.view l.store).vars)
