use Rattle.words_rule.proofs.Waits.{sets_begun}
use Rattle.words_rule.proofs.seat.Guard.walk_wait.Goals as goal

pub returns-in-Ok : goal.returns-in-Ok
returns-in-Ok g c = (c.in-Ok.ensures.0, sets_begun c.args.pass c.loop.mine c.in-Ok.share.pass c.loop.invariant.1 c.in-Ok.ensures.1)
