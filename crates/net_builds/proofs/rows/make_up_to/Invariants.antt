use Rattle.std.proofs.Common.{◌+◌, ◌-◌, ◌≤◌}
use Rattle.net_builds.specs.Building.{BuildsTo}
use Rattle.net_builds.proofs.rows.make_up_to.Given as goal

abbrev pub invariant-loop-next : goal.invariant-loop-next
invariant-loop-next g l = record {
  own : g.H.Host.has l.host l.session;
  built : BuildsTo l.net l.last l.next (g.H.Host.standing l.fn.session) (g.H.Host.standing l.session) l.rows;
  later : l.first ≤ l.next;
}

abbrev pub decreases-loop-next : goal.decreases-loop-next
decreases-loop-next g l = l.signal + 1 - l.next
