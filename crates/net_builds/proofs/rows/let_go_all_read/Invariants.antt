use Rattle.std.proofs.Common.{◌+◌}
use Rattle.net_builds.specs.Building.{BuildsTo}
use Rattle.net_builds.proofs.rows.let_go_all_read.Given as goal

abbrev pub invariant-loop-signal : goal.invariant-loop-signal
invariant-loop-signal g l = record {
  own : g.H.Host.has l.host l.session;
  built : BuildsTo l.net l.last (l.reader + 1) (g.H.Host.standing l.fn.session) (g.H.Host.standing l.session) l.rows;
}
