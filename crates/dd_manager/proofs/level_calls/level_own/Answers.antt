use Rattle.std.proofs.Common.{arith}
use Rattle.dd_manager.proofs.Calls.{same-count, told-level}
use Rattle.dd_manager.proofs.level_calls.level_own.Goals as goal

pub level_of-level-requires : goal.level_of-level-requires
level_of-level-requires c =
    let same = same-count c.args.rows c.levels_in-count.new.self c.args.order (c.levels_in-count.ensures.same, c.levels_in-count.ensures.orders) in
    let count = c.levels_in-count.ensures.levels in
    omega (arith, same, count, c.if-number-count.false)

pub returns : goal.returns
returns c = told-level c.args.order c.args.rows c.levels_in-count.new.self c.args.number c.counted.result (c.levels_in-count.ensures.same, c.levels_in-count.ensures.orders) c.level_of-level.new.self c.level_of-level.result (c.level_of-level.ensures.same, c.level_of-level.ensures.orders) c.level_of-level.ensures.level c.counted.ensures
