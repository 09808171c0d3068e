use Rattle.std.proofs.Common.{◌≡◌, ◌<◌, ◌≤◌, ℕ, All, Some, length, map}
use Rattle.std.specs.Prelude.{slice_get}
use Rattle.net_builds.specs.Holdings.{LetsAllGo, names_in}
use Rattle.net_builds.specs.Standings.{Standing}
use Rattle.net_builds.specs.declared.sharing.Share.{Share}
use Rattle.net_builds.proofs.sharing.let_go_shares.Given as goal

abbrev pub invariant-loop-number : goal.invariant-loop-number
invariant-loop-number g l = record {
  own : All (g.H.Host.has l.host) l.sessions;
  long : length l.sessions ≡ length l.initial.sessions;
  gone : (i : ℕ) (a b : Standing) (one : Share g.row.H-Full.Denot) → i < l.number → slice_get (map g.H.Host.standing l.initial.sessions) i ≡ Some a → slice_get (map g.H.Host.standing l.sessions) i ≡ Some b
      → slice_get l.shares i ≡ Some one → LetsAllGo a b (names_in one.outputs.rows.items);
  same : (i : ℕ) → l.number ≤ i → slice_get (map g.H.Host.standing l.sessions) i ≡ slice_get (map g.H.Host.standing l.initial.sessions) i;
}
