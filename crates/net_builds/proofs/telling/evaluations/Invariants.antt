use Rattle.std.proofs.Common.{◌≡◌, map, take}
use Rattle.net_builds.specs.Standings.{Asks}
use Rattle.net_builds.specs.Tellings.{evaluation_in}
use Rattle.net_builds.proofs.telling.evaluations.Given as goal

abbrev pub invariant-loop-pattern : goal.invariant-loop-pattern
invariant-loop-pattern g l = record {
  own : g.H.Host.has l.host l.session;
  asks : Asks (g.H.Host.standing l.initial.session) (g.H.Host.standing l.session);
  evaluations : l.evaluations.items ≡ map (evaluation_in (g.H.Host.standing l.initial.session) l.names) (take l.pattern-index l.patterns);
}
