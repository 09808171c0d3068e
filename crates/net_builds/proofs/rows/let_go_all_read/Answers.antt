use Rattle.std.proofs.Common.{◌+◌}
use Rattle.net_builds.proofs.SignalSteps.{builds_more, builds_none}
use Rattle.net_builds.proofs.rows.let_go_all_read.Goals as goal

pub loop-signal-init : goal.loop-signal-init
loop-signal-init g c = record {
  own = c.requires.has.own;
  built = builds_none c.args.net.now c.args.last.now (c.args.reader + 1) (g.H.Host.standing c.args.session.now) c.args.rows.now c.requires.has.built;
}

pub loop-signal-preserved : goal.loop-signal-preserved
loop-signal-preserved g c = record {
  own = c.let_go_read.ensures.own;
  built = builds_more c.args.net.now c.args.last.now (c.args.reader + 1) (c.args.reader + 1) (g.H.Host.standing c.args.session.now) (g.H.Host.standing c.loop-signal.session)
      (g.H.Host.standing c.let_go_read.new.session) c.loop-signal.rows c.let_go_read.new.rows c.loop-signal.invariant.built c.let_go_read.ensures.built;
}
