use Rattle.std.proofs.Common.{◌≡◌, length, map, take}
use Rattle.std.specs.Prelude.{vec_capacity}
use Rattle.diagram_dumps.specs.Dumps.{root_value}
use Rattle.net_builds.specs.Loads.{IsTurned}
use Rattle.net_builds.specs.Signals.{AllHold}
use Rattle.net_builds.specs.Standings.{Works}
use Rattle.net_builds.proofs.diagrams.name_roots.Given as goal

abbrev pub invariant-loop-root : goal.invariant-loop-root
invariant-loop-root g l = record {
  own : g.H.Host.has l.host l.session;
  works : Works (g.H.Host.standing l.fn.session) (g.H.Host.standing l.session);
  turned_are : IsTurned (g.H.Host.standing l.session) l.dump l.made.items l.turned;
  hold : AllHold (g.H.Host.standing l.session) (map (root_value l.dump) (take l.root-index l.dump.roots)) l.names.items;
  room : vec_capacity l.made ≡ vec_capacity l.fn.made;
  place : vec_capacity l.names ≡ vec_capacity l.fn.names;
  named : length l.names.items ≡ l.root-index;
}
