use Rattle.std.proofs.Common.{arith}
use Rattle.dd_manager.proofs.Calls.{told-swap}
use Rattle.dd_manager.proofs.level_calls.swap_own.Goals as goal

pub returns : goal.returns
returns c =
    let count = c.levels_in-count.ensures.levels in
    told-swap c.args.order c.args.rows c.levels_in-count.new.self c.args.level c.swapped.result (c.levels_in-count.ensures.same, c.levels_in-count.ensures.orders) c.swap-left.result.0 c.swap-left.result.1 (grind arith)
    c.swap-left.ensures.same c.swap-left.ensures.reorders c.swap-left.ensures.orders c.swapped.ensures
