use Rattle.std.proofs.Common.{◌+◌}
use Rattle.std.proofs.lemmas.Result.{err_from_is_err_and}
use Rattle.net_builds.proofs.SignalSteps.{builds_more, builds_none, left_more}
use Rattle.net_builds.proofs.rows.make_inputs.Goals as goal

pub loop-signal-preserved : goal.loop-signal-preserved
loop-signal-preserved g c = record {
  own = c.make_input.ensures.back.own;
  built = builds_more c.args.net.now c.args.last.now c.loop-signal.signal (c.loop-signal.signal + 1) (g.H.Host.standing c.args.session.now) (g.H.Host.standing c.loop-signal.session)
      (g.H.Host.standing c.make_input.new.session) c.loop-signal.rows c.make_input.new.rows c.loop-signal.invariant.built c.in_ok-make_input.ensures.built;
}

pub returns-in_err-make_input-clause-back : goal.returns-in_err-make_input-clause-back
returns-in_err-make_input-clause-back g c =
    let p = err_from_is_err_and c.from_residual.result c.from_residual.ensures.1 in
    rw (p.1, p.2) (record {
      own = c.in_err-make_input.ensures.back.own;
      left = left_more (g.H.Host.tells c.args.host.now) c.args.net.now c.args.last.now c.loop-signal.signal (g.H.Host.standing c.args.session.now) (g.H.Host.standing c.loop-signal.session)
          (g.H.Host.standing c.make_input.new.session) c.loop-signal.rows c.make_input.new.rows c.in_err-make_input.field-0.0 c.loop-signal.invariant.built c.in_err-make_input.ensures.back.left;
    })

pub loop-signal-init : goal.loop-signal-init
loop-signal-init g c = record {
  own = c.requires.has.own;
  built = builds_none c.args.net.now c.args.last.now 0 (g.H.Host.standing c.args.session.now) c.args.rows.now c.requires.has.built;
}
