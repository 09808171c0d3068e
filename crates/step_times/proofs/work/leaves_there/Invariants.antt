use Rattle.std.proofs.Common.{◌≡◌, ◌≤◌}
use Rattle.step_times.proofs.work.leaves_there.Given as goal

abbrev pub invariant-loop-value : goal.invariant-loop-value
invariant-loop-value g l = record { vars : (g.G.Grow.view l.store).vars ≡ (g.G.Grow.view l.fn.store).vars; few : l.there ≤ l.value }
