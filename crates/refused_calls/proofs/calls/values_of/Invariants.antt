use Rattle.std.proofs.Common.{◌≡◌}
use Rattle.refused_calls.proofs.calls.values_of.Given as goal

abbrev pub invariant-loop-number : goal.invariant-loop-number
invariant-loop-number g l = l.session.manager ≡ l.fn.session.manager
