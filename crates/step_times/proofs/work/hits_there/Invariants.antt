use Rattle.std.proofs.Common.{◌≡◌, ◌≤◌}
use Rattle.step_times.proofs.work.hits_there.Given as goal

abbrev pub invariant-loop-i : goal.invariant-loop-i
invariant-loop-i g l = record { vars : (g.G.Grow.view l.store).vars ≡ (g.G.Grow.view l.fn.store).vars; few : l.there ≤ l.i }
