use Rattle.std.proofs.Common.{◌≡◌, ◌≤◌, ◌++◌, drop, length}
use Rattle.std.specs.Prelude.{map, vec_capacity}
use Rattle.function_laws.specs.Sizes.{in_order}
use Rattle.function_laws.specs.SiftedOrders.{default_ones}
use Rattle.group_sift.specs.Settled.{IsSettled, measure_at}
use Rattle.group_sift.specs.Turns.{width_entry, blocks_of, Rise, last_end}
use Rattle.group_sift.proofs.lists.list_blocks.Given as goal

abbrev pub invariant-loop-block : goal.invariant-loop-block
invariant-loop-block g l = IsSettled g.W.Whole.others l.order g.start (g.W.Whole.view l.w)
    × (in_order (g.W.Whole.view l.w).orders l.order ≡ in_order (g.W.Whole.view l.fn.w).orders l.order)
    × (l.list.items ++ map (width_entry ((measure_at l.order g.start).width_of (in_order (g.W.Whole.view l.fn.w).orders l.order))) (default_ones l.from (blocks_of (drop l.block-index l.blocks)) (drop l.from (in_order (g.W.Whole.view l.fn.w).orders l.order)))
    ≡ map (width_entry ((measure_at l.order g.start).width_of (in_order (g.W.Whole.view l.fn.w).orders l.order))) (default_ones 0 (blocks_of l.blocks) (in_order (g.W.Whole.view l.fn.w).orders l.order)))
    × Rise l.from (blocks_of (drop l.block-index l.blocks))
    × (last_end l.from (blocks_of (drop l.block-index l.blocks)) ≡ length (in_order (g.W.Whole.view l.fn.w).orders l.order))
    × (length l.list.items ≤ l.from)
    × (vec_capacity l.fn.list ≤ vec_capacity l.list)

abbrev pub ghost-list_block : goal.ghost-list_block
ghost-list_block g a = g.start
