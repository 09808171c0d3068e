use Rattle.std.proofs.Common.{◌≡◌, ◌≤◌}
use Rattle.step_times.proofs.work.nodes_there.Given as goal

abbrev pub invariant-loop-i : goal.invariant-loop-i
invariant-loop-i g l = record { vars : (g.G.Grow.view l.store).vars ≡ l.vars; few : l.there ≤ l.i }
