use Rattle.net_builds.proofs.UseLemmas.{raises-more}
use Rattle.net_builds.proofs.uses.raise.Goals as goal

pub loop-signal-preserved : goal.loop-signal-preserved
loop-signal-preserved c = raises-more c.args.signals.now c.args.last.now c.loop-signal.last c.args.reader c.loop-signal.signal-index c.max.result c.loop-signal-test.true c.requires c.loop-signal.invariant c.max.ensures
