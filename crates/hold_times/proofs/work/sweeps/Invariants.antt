use Rattle.group_sift.specs.Sifts.{IsIdle}
use Rattle.hold_times.proofs.work.sweeps.Given as goal

abbrev pub invariant-loop : goal.invariant-loop
invariant-loop g l = IsIdle (g.W.Whole.view l.w)
