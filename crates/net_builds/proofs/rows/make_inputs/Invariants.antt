use Rattle.net_builds.specs.Building.{BuildsTo}
use Rattle.net_builds.proofs.rows.make_inputs.Given as goal

abbrev pub invariant-loop-signal : goal.invariant-loop-signal
invariant-loop-signal g l = record {
  own : g.H.Host.has l.host l.session;
  built : BuildsTo l.net l.last l.signal (g.H.Host.standing l.fn.session) (g.H.Host.standing l.session) l.rows;
}
