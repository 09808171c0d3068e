use Rattle.std.proofs.Common.{arith}
use Rattle.cover_nets.specs.Networks.{signal_value}
use Rattle.net_builds.specs.Building.{ended}
use Rattle.net_builds.proofs.OutputNames.{ended_step}
use Rattle.net_builds.proofs.SignalSteps.{builds_none}
use Rattle.net_builds.proofs.StandingLemmas.{holds_live}
use Rattle.net_builds.proofs.rows.let_go_unless_ended.Goals as goal

pub returns-then-last-signal-clause-built : goal.returns-then-last-signal-clause-built
returns-then-last-signal-clause-built g c = builds_none c.args.net.now (ended c.args.last.now) c.args.next (g.H.Host.standing c.args.session.now) c.args.rows.now c.requires.has.built

pub returns-in_default-clause-built : goal.returns-in_default-clause-built
returns-in_default-clause-built g c = builds_none c.args.net.now (ended c.args.last.now) c.args.next (g.H.Host.standing c.args.session.now) c.args.rows.now c.requires.has.built

pub let_go-requires-clause-held : goal.let_go-requires-clause-held
let_go-requires-clause-held g c =
    let signal = c.args.signal in
    holds_live (g.H.Host.standing c.args.session.now) c.in-Some.name (signal_value c.args.net.now signal) (c.requires.has.built.held signal c.in-Some.name c.in-Some.is)

pub returns-in-Some-clause-built : goal.returns-in-Some-clause-built
returns-in-Some-clause-built g c =
    let last = c.args.last.now in
    let signal = c.args.signal in
    ended_step c.args.net.now last c.args.next signal (g.H.Host.standing c.args.session.now) (g.H.Host.standing c.let_go.new.session) c.args.rows.now c.in-Some.name c.requires.within
    c.if-last-signal.false (omega (arith, c.type_inv.last)) c.in-Some.is c.requires.has.built c.let_go.ensures.gone
