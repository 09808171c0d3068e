use Rattle.std.proofs.Common.{◌≡◌, ◌≤◌, ℕ, All, Bool, List, length, map, take}
use Rattle.std.specs.Prelude.{vec_capacity}
use Rattle.net_builds.specs.Handings.{Gathers}
use Rattle.net_builds.specs.Shares.{MayGather}
use Rattle.net_builds.proofs.handing.hand_all.Given as goal

abbrev pub invariant-loop-output : goal.invariant-loop-output
invariant-loop-output g l = record {
  own : All (g.H.Host.has l.host) l.sessions;
  long : length l.sessions ≡ length l.initial.sessions;
  room : l.outputs ≤ vec_capacity l.handovers;
  many : length l.handovers.items ≡ l.output;
  gathered : (wanted : List (ℕ → Bool)) → MayGather g.H.Host.has g.H.Host.standing l.host l.initial.sessions wanted l.shares → length wanted ≡ l.outputs
      → Gathers l.cell (take l.output wanted) (map g.H.Host.standing l.initial.sessions) (map g.H.Host.standing l.sessions) l.handovers.items;
}
