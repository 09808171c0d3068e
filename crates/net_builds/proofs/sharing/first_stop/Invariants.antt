use Rattle.std.proofs.Common.{◌≡◌, drop}
use Rattle.net_builds.specs.Shares.{stop_of, told_first}
use Rattle.net_builds.proofs.sharing.first_stop.Given as goal

abbrev pub invariant-loop-share : goal.invariant-loop-share
invariant-loop-share g l = told_first l.first (stop_of (drop l.share-index l.shares)) ≡ stop_of l.shares
