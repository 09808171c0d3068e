use Rattle.std.proofs.Common.{◌≡◌}
use Rattle.session_tests.proofs.threads.fetch_all.Given as goal

abbrev pub invariant-loop : goal.invariant-loop
invariant-loop g l = (l.session.manager ≡ l.fn.session.manager) × (l.session.number ≡ l.fn.session.number)
