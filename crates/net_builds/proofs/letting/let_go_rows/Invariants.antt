use Rattle.std.proofs.Common.{take}
use Rattle.net_builds.specs.Holdings.{LetsAllGo, names_in}
use Rattle.net_builds.proofs.letting.let_go_rows.Given as goal

abbrev pub invariant-loop-row : goal.invariant-loop-row
invariant-loop-row g l = record {
  own : g.H.Host.has l.host l.session;
  gone : LetsAllGo (g.H.Host.standing l.initial.session) (g.H.Host.standing l.session) (names_in (take l.row-index l.rows));
}
