use Rattle.std.proofs.Common.{◌≡◌}
use Rattle.session_tests.proofs.swaps.is_pairs.Given as goal

abbrev pub invariant-loop-number : goal.invariant-loop-number
invariant-loop-number g l = (l.session.manager ≡ l.fn.session.manager) × (l.session.number ≡ l.fn.session.number)
