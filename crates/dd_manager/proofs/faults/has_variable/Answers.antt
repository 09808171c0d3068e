use Rattle.std.proofs.Common.{sym}
use Rattle.dd_manager.proofs.Putting.{put-at}
use Rattle.dd_manager.proofs.faults.has_variable.Goals as goal

pub returns-then-pair-var : goal.returns-then-pair-var
returns-then-pair-var c = sym (put-at c.args.pairs.now c.args.var c.loop-pair.pair-index (0, record { row = 0; generation = 0 }) c.loop-pair-test.true c.if-pair-var.true)
