use Rattle.std.proofs.Common.{◌≡◌, ◌+◌, ◌<◌, ℕ}
use Rattle.node_store.specs.Views.{Kept}
use Rattle.store_rows.proofs.levels.with_level.Given as goal

abbrev pub invariant-loop-number : goal.invariant-loop-number
invariant-loop-number g l = record {
  kept : Kept (g.G.Grow.view l.initial.store) (g.G.Grow.view l.store);
  others : (n : ℕ) → n < l.number → (g.G.Grow.view l.initial.store).level (l.fn.first + n) ≡ l.fn.level → ⊥;
}
