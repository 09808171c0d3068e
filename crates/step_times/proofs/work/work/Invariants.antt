use Rattle.std.proofs.Common.{◌≡◌}
use Rattle.step_times.proofs.work.work.Given as goal

abbrev pub invariant-loop : goal.invariant-loop
invariant-loop g l = record { vars : (g.G.Grow.view l.store).vars ≡ (g.G.Grow.view l.fn.store).vars }
