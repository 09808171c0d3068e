use Rattle.std.proofs.Common.{◌+◌, ◌*◌, ◌<◌, ◌≤◌, ℕ, get_or, length}
use Rattle.net_builds.specs.Building.{BuildsTo}
use Rattle.net_builds.proofs.rows.make_outputs.Given as goal

abbrev pub invariant-loop-number : goal.invariant-loop-number
invariant-loop-number g l = record {
  own : g.H.Host.has l.host l.session;
  built : BuildsTo l.net l.last l.next (g.H.Host.standing l.fn.session) (g.H.Host.standing l.session) l.rows;
  later : length l.net.inputs ≤ l.next;
  counted : l.output ≤ l.worker.number + 64 * l.number;
  behind : (i d : ℕ) → i < l.number → get_or l.own i d < l.next;
}
