use Rattle.std.proofs.Common.{◌≡◌}
use Rattle.call_times.proofs.calls.call_all.Given as goal

abbrev pub invariant-loop : goal.invariant-loop
invariant-loop g l = l.session.manager ≡ l.fn.session.manager
