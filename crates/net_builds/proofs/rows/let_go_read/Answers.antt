use Rattle.std.proofs.Common.{◌+◌, arith}
use Rattle.cover_nets.specs.Networks.{signal_value}
use Rattle.net_builds.proofs.StandingLemmas.{holds_live}
use Rattle.net_builds.proofs.SignalSteps.{builds_none, built_gone}
use Rattle.net_builds.proofs.rows.let_go_read.Goals as goal

pub let_go-requires-clause-held : goal.let_go-requires-clause-held
let_go-requires-clause-held g c =
    holds_live (g.H.Host.standing c.args.session.now) c.in-Some.name (signal_value c.args.net.now c.args.signal) (c.requires.has.built.held c.args.signal c.in-Some.name c.in-Some.is)

pub returns-in-Some-clause-built : goal.returns-in-Some-clause-built
returns-in-Some-clause-built g c =
    built_gone c.args.net.now c.args.last.now (c.args.reader + 1) c.args.signal (g.H.Host.standing c.args.session.now) (g.H.Host.standing c.let_go.new.session) c.args.rows.now c.in-Some.name
    c.requires.within (omega (arith, c.if-last-place.true)) c.in-Some.is c.requires.has.built c.let_go.ensures.gone

pub returns-in_default-clause-built : goal.returns-in_default-clause-built
returns-in_default-clause-built g c = builds_none c.args.net.now c.args.last.now (c.args.reader + 1) (g.H.Host.standing c.args.session.now) c.args.rows.now c.requires.has.built

pub returns-else-last-place-clause-built : goal.returns-else-last-place-clause-built
returns-else-last-place-clause-built g c = builds_none c.args.net.now c.args.last.now (c.args.reader + 1) (g.H.Host.standing c.args.session.now) c.args.rows.now c.requires.has.built
