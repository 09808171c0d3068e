use Rattle.std.proofs.Common.{arith}
use Rattle.dd_manager.proofs.Calls.{same-count, told-at}
use Rattle.dd_manager.proofs.level_calls.at_own.Goals as goal

pub at_level-number-requires : goal.at_level-number-requires
at_level-number-requires c =
    let same = same-count c.args.rows c.levels_in-count.new.self c.args.order (c.levels_in-count.ensures.same, c.levels_in-count.ensures.orders) in
    let count = c.levels_in-count.ensures.levels in
    omega (arith, same, count, c.if-level-count.false)

pub returns : goal.returns
returns c = told-at c.args.order c.args.rows c.levels_in-count.new.self c.args.level c.counted.result (c.levels_in-count.ensures.same, c.levels_in-count.ensures.orders) c.at_level-number.new.self c.at_level-number.result (c.at_level-number.ensures.same, c.at_level-number.ensures.orders) c.at_level-number.ensures.number c.counted.ensures
