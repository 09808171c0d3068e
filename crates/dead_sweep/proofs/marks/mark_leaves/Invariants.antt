use Rattle.std.proofs.Common.{◌≡◌, None, ℕ, Bool, ◌+◌, ◌-◌, length}
use Rattle.node_store.specs.Contents.{Content, IsSound}
use Rattle.dead_sweep.specs.Marks.{Marked, MarkedSome, OnlyMarks}
use Rattle.dead_sweep.proofs.marks.mark_leaves.Given as goal

abbrev pub invariant-leaves : goal.invariant-leaves
invariant-leaves g l =
    OnlyMarks g.W.Whole.others (g.W.Whole.view l.initial.w) (g.W.Whole.view l.w)
    × ((start : Content) (is_root : ℕ → Bool) → IsSound start → start.half ≡ None
    → Marked g.W.Whole.others start (g.W.Whole.view l.initial.w) is_root (length start.orders.variables + length start.orders.elements) 0
    → MarkedSome g.W.Whole.others start (g.W.Whole.view l.w) (length start.orders.variables + length start.orders.elements) l.from)

abbrev pub decreases-leaves : goal.decreases-leaves
decreases-leaves g l = (g.W.Whole.view l.initial.w).limit - l.from
