use Rattle.std.proofs.Common.{◌≡◌, length, take}
use Rattle.function_laws.specs.Values.{assignment_of}
use Rattle.net_builds.specs.Standings.{Asks}
use Rattle.net_builds.specs.Tellings.{values_in}
use Rattle.net_builds.proofs.telling.values.Given as goal

abbrev pub invariant-loop-name : goal.invariant-loop-name
invariant-loop-name g l = record {
  own : g.H.Host.has l.host l.session;
  asks : Asks (g.H.Host.standing l.initial.session) (g.H.Host.standing l.session);
  values : l.values ≡ values_in (g.H.Host.standing l.initial.session) (take (length l.yielded) l.names) (assignment_of l.bits);
}
