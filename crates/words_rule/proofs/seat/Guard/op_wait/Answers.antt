use Rattle.words_rule.proofs.Waits.{begins}
use Rattle.words_rule.proofs.seat.Guard.op_wait.Goals as goal

pub returns-in-Ok : goal.returns-in-Ok
returns-in-Ok g c = (c.in-Ok.ensures.0, begins c.args.pass c.loop.mine c.in-Ok.share.pass c.loop.invariant.1 c.in-Ok.ensures.1)
