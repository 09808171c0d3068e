use Rattle.std.proofs.Common.{◌≡◌, None, ℕ, Bool}
use Rattle.node_store.specs.Contents.{Content, IsSound}
use Rattle.dead_sweep.specs.Marks.{rank_at, Marked, MarkedSome, OnlyMarks}
use Rattle.dead_sweep.proofs.marks.mark_order.Given as goal

abbrev pub invariant-loop-level : goal.invariant-loop-level
invariant-loop-level g l =
    OnlyMarks g.W.Whole.others (g.W.Whole.view l.initial.w) (g.W.Whole.view l.w)
    × ((start : Content) (is_root : ℕ → Bool) → IsSound start → start.half ≡ None
    → Marked g.W.Whole.others start (g.W.Whole.view l.initial.w) is_root (rank_at start.orders l.order 0) 0
    → MarkedSome g.W.Whole.others start (g.W.Whole.view l.w) (rank_at start.orders l.order l.level) 0)
