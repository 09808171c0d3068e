use Rattle.std.proofs.Common.{◌≡◌, length}
use Rattle.net_jobs.proofs.workers.no_shares.Given as goal

abbrev pub invariant-loop : goal.invariant-loop
invariant-loop l = length l.shares.items ≡ l.counter
