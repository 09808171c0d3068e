use Rattle.std.proofs.Common.{◌≡◌}
use Rattle.group_sift.specs.Sifts.{IsIdle}
use Rattle.group_sift.specs.Turns.{last_end}
use Rattle.hold_times.proofs.work.sifts.Given as goal

abbrev pub invariant-loop : goal.invariant-loop
invariant-loop g l = record {
  idle : IsIdle (g.W.Whole.view l.w);
  end : last_end 0 l.blocks ≡ l.end;
}
