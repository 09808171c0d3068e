use Rattle.std.proofs.Common.{◌∙◌, ap}
use Rattle.group_sift.specs.Turns.{one_block}
use Rattle.dd_manager.proofs.Calls.{told-sift}
use Rattle.dd_manager.proofs.level_calls.sift_own.Goals as goal

pub returns : goal.returns
returns c = told-sift c.args.order c.args.rows c.levels_in-count.new.self c.sift-left.result.0 c.counted.result (c.levels_in-count.ensures.same, c.levels_in-count.ensures.orders) _ c.sift-left.result.1
    (c.in-Ok.ensures ∙ ap one_block c.levels_in-count.ensures.levels) c.sift-left.ensures.same c.sift-left.ensures.sifted c.sift-left.ensures.orders c.counted.ensures
