use Rattle.std.proofs.Common.{◌≡◌, ◌-◌, ◌+◌, ◌≤◌, ◌++◌, drop, take}
use Rattle.std.specs.Prelude.{map, vec_capacity, vec_len}
use Rattle.function_laws.specs.Sizes.{in_order}
use Rattle.group_sift.specs.Settled.{IsSettled, measure_at}
use Rattle.group_sift.specs.Turns.{width_entry}
use Rattle.group_sift.proofs.lists.list_block.Given as goal

abbrev pub invariant-loop-level : goal.invariant-loop-level
invariant-loop-level g l = IsSettled g.W.Whole.others l.order g.start (g.W.Whole.view l.w)
    × (in_order (g.W.Whole.view l.w).orders l.order ≡ in_order (g.W.Whole.view l.fn.w).orders l.order)
    × (l.list.items ≡ l.fn.list.items ++ map (width_entry ((measure_at l.order g.start).width_of (in_order (g.W.Whole.view l.fn.w).orders l.order))) (take (l.level - l.from) (drop l.from (in_order (g.W.Whole.view l.fn.w).orders l.order))))
    × (vec_capacity l.fn.list ≤ vec_capacity l.list)
    × (vec_len l.list ≡ vec_len l.fn.list + (l.level - l.from))

abbrev pub ghost-list_level : goal.ghost-list_level
ghost-list_level g a = g.start
