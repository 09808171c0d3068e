use Rattle.std.proofs.Common.{◌≡◌, ◌<◌, ◌≤◌, ℕ, Some}
use Rattle.std.specs.Prelude.{slice_index}
use Rattle.function_laws.specs.declared.history.Name.{Name}
use Rattle.net_builds.specs.Building.{BuildsTo, ended, row_at}
use Rattle.net_builds.specs.declared.uses.TheConstants.{TO_THE_END}
use Rattle.net_builds.proofs.rows.let_go_ended.Given as goal

abbrev pub invariant-loop-signal : goal.invariant-loop-signal
invariant-loop-signal g l = record {
  own : g.H.Host.has l.host l.session;
  built : BuildsTo l.net (ended l.last) l.next (g.H.Host.standing l.fn.session) (g.H.Host.standing l.session) l.rows;
  gone : (signal : ℕ) (name : Name) → signal < l.signal → row_at l.rows signal ≡ Some name → TO_THE_END ≤ slice_index l.last signal;
}
