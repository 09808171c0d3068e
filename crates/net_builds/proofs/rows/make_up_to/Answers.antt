use Rattle.std.proofs.Common.{◌+◌, arith}
use Rattle.std.proofs.lemmas.Result.{err_from_is_err_and}
use Rattle.net_builds.proofs.SignalSteps.{builds_more, builds_none, left_more}
use Rattle.net_builds.proofs.rows.make_up_to.Goals as goal

pub loop-next-init : goal.loop-next-init
loop-next-init g c = record {
  own = c.requires.has.own;
  built = builds_none c.args.net.now c.args.last.now c.args.first (g.H.Host.standing c.args.session.now) c.args.rows.now c.requires.has.built;
  later = omega arith;
}

pub loop-next-preserved : goal.loop-next-preserved
loop-next-preserved g c = record {
  own = c.make_gate.ensures.back.own;
  built = builds_more c.args.net.now c.args.last.now c.loop-next.next (c.loop-next.next + 1) (g.H.Host.standing c.args.session.now) (g.H.Host.standing c.loop-next.session)
      (g.H.Host.standing c.make_gate.new.session) c.loop-next.rows c.make_gate.new.rows c.loop-next.invariant.built c.in_ok-make_gate.ensures.built;
  later = omega (arith, c.loop-next.invariant.later);
}

pub returns-in_err-make_gate-clause-back : goal.returns-in_err-make_gate-clause-back
returns-in_err-make_gate-clause-back g c =
    let p = err_from_is_err_and c.from_residual.result c.from_residual.ensures.1 in
    rw (p.1, p.2) (record {
      own = c.in_err-make_gate.ensures.back.own;
      left = left_more (g.H.Host.tells c.args.host.now) c.args.net.now c.args.last.now c.loop-next.next (g.H.Host.standing c.args.session.now) (g.H.Host.standing c.loop-next.session)
          (g.H.Host.standing c.make_gate.new.session) c.loop-next.rows c.make_gate.new.rows c.in_err-make_gate.field-0.0 c.loop-next.invariant.built c.in_err-make_gate.ensures.back.left;
    })
