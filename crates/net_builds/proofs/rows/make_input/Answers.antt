use Rattle.std.proofs.Common.{◌≡◌, arith}
use Rattle.cover_nets.specs.Networks.{signal_value}
use Rattle.cover_nets.proofs.Values.{input_is}
use Rattle.function_laws.specs.Values.{projection}
use Rattle.std.proofs.lemmas.Result.{err_from_is_err_and}
use Rattle.net_builds.proofs.SignalSteps.{builds_unused, built_made, left_kept}
use Rattle.net_builds.proofs.rows.make_input.Goals as goal

pub returns-clause-built : goal.returns-clause-built
returns-clause-built g c =
    let net = c.args.net.now in
    let is : signal_value net c.args.signal ≡ projection c.args.signal = λ j k. input_is net c.args.signal k c.requires.input j in
    built_made net c.args.last.now c.args.signal (g.H.Host.standing c.args.session.now) (g.H.Host.standing c.projection.new.session) c.args.rows.now c.in_ok-projection.field-0
    (projection c.args.signal) (omega (arith, c.requires.input)) is c.requires.has.built c.in_ok-projection.ensures.made

pub returns-in_err-projection-clause-back : goal.returns-in_err-projection-clause-back
returns-in_err-projection-clause-back g c =
    let back = c.in_err-projection.ensures.back in
    let p = err_from_is_err_and c.from_residual.result c.from_residual.ensures.1 in
    rw (p.1, p.2) (record {
      own = back.own;
      left = left_kept (g.H.Host.tells c.args.host.now) c.args.net.now c.args.last.now c.args.signal (g.H.Host.standing c.args.session.now) (g.H.Host.standing c.projection.new.session) c.args.rows.now
          c.in_err-projection.field-0.0 c.requires.has.built back.works back.kept back.rows back.caused;
    })

pub returns-then-last-place-eq0-clause-built : goal.returns-then-last-place-eq0-clause-built
returns-then-last-place-eq0-clause-built g c =
    builds_unused c.args.net.now c.args.last.now c.args.signal (g.H.Host.standing c.args.session.now) c.args.rows.now (omega (arith, c.requires.input)) (omega (arith, c.if-last-place-eq0.true)) c.requires.has.built
