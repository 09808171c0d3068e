use Rattle.std.proofs.Common.{map, take}
use Rattle.net_builds.specs.Holdings.{LetsAllGo}
use Rattle.net_builds.proofs.letting.let_go_fetched.Given as goal

abbrev pub invariant-loop-handover : goal.invariant-loop-handover
invariant-loop-handover g l = record {
  own : g.H.Host.has l.host l.session;
  gone : LetsAllGo (g.H.Host.standing l.initial.session) (g.H.Host.standing l.session) (map (λ h. h.to) (take l.handover-index l.handovers));
}
