use Rattle.std.proofs.Common.{◌∙◌, map, sym}
use Rattle.net_builds.specs.Handings.{Returns}
use Rattle.net_builds.proofs.Gathered.{may_gather, stopped_only}
use Rattle.net_builds.proofs.Gathering.{returns_none}
use Rattle.net_builds.proofs.Pairs.{zip_same}
use Rattle.net_builds.proofs.Stops.{none_told}
use Rattle.net_builds.proofs.building.told_unless_stopped.Goals as goal

pub returns-in-Some-clause-returns : goal.returns-in-Some-clause-returns
returns-in-Some-clause-returns g c = zip_same (Returns c.args.cell c.args.sifts) (returns_none c.args.cell c.args.sifts) (map g.H.Host.standing c.args.sessions.now)

pub returns-in-Some-clause-stopped : goal.returns-in-Some-clause-stopped
returns-in-Some-clause-stopped g c = stopped_only c.args.shares.now (map g.H.Host.standing c.args.sessions.now) c.in-Some.stop (sym c.first_stop.ensures ∙ c.in-Some.is)

pub returns-clause-done : goal.returns-clause-done
returns-clause-done g c = none_told c.args.shares.now (sym c.first_stop.ensures ∙ c.in_default.is)

pub told_gathered-requires-clause-may : goal.told_gathered-requires-clause-may
told_gathered-requires-clause-may g c =
    may_gather g.H.Host.has g.H.Host.standing c.args.host.now g.H.Host.tells c.args.sessions.now c.args.net.now c.args.shares.now c.requires.may (none_told c.args.shares.now (sym c.first_stop.ensures ∙ c.in_default.is))
