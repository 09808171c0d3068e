use Rattle.std.proofs.Common.{take}
use Rattle.net_builds.specs.Holdings.{LetsAllGo}
use Rattle.net_builds.proofs.letting.let_go_names.Given as goal

abbrev pub invariant-loop-name : goal.invariant-loop-name
invariant-loop-name g l = record {
  own : g.H.Host.has l.host l.session;
  gone : LetsAllGo (g.H.Host.standing l.initial.session) (g.H.Host.standing l.session) (take l.name-index l.names);
}
