use Rattle.std.proofs.Common.{◌≡◌, ◌+◌, length}
use Rattle.std.specs.Prelude.{vec_capacity}
use Rattle.net_builds.specs.Loads.{HoldLines, IsStack}
use Rattle.net_builds.specs.Standings.{Works}
use Rattle.net_builds.proofs.diagrams.make_lines.Given as goal

abbrev pub invariant-loop-place : goal.invariant-loop-place
invariant-loop-place g l = record {
  own : g.H.Host.has l.host l.session;
  works : Works (g.H.Host.standing l.fn.session) (g.H.Host.standing l.session);
  stack : IsStack (g.H.Host.standing l.session) l.made.items;
  lines : HoldLines (g.H.Host.standing l.session) l.dump l.made.items;
  long : length l.made.items ≡ l.place + 1;
  room : vec_capacity l.made ≡ vec_capacity l.fn.made;
}
