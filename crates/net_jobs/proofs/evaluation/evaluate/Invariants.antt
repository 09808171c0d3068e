use Rattle.std.proofs.Common.{◌≡◌}
use Rattle.net_jobs.proofs.evaluation.evaluate.Given as goal

abbrev pub invariant-loop : goal.invariant-loop
invariant-loop g l = l.session ≡ l.initial.session
