use Rattle.std.proofs.Common.{◌≡◌, None, ℕ, Bool, ◌-◌, ◌<◌, length}
use Rattle.function_laws.specs.Sizes.{in_order}
use Rattle.node_store.specs.Contents.{Content, IsSound}
use Rattle.dead_sweep.specs.Marks.{rank_at, Marked, MarkedSome, OnlyMarks}
use Rattle.dead_sweep.proofs.marks.mark_level.Given as goal

abbrev pub invariant-slots : goal.invariant-slots
invariant-slots g l =
    OnlyMarks g.W.Whole.others (g.W.Whole.view l.initial.w) (g.W.Whole.view l.w)
    × ((start : Content) (is_root : ℕ → Bool) → IsSound start → start.half ≡ None → l.level < length (in_order start.orders l.order)
    → Marked g.W.Whole.others start (g.W.Whole.view l.initial.w) is_root (rank_at start.orders l.order l.level) 0
    → MarkedSome g.W.Whole.others start (g.W.Whole.view l.w) (rank_at start.orders l.order l.level) l.from)

abbrev pub decreases-slots : goal.decreases-slots
decreases-slots g l = (g.W.Whole.view l.initial.w).limit - l.from
