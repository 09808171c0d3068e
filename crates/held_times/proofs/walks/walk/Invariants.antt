use Rattle.std.proofs.Common.{◌≡◌, false, None}
use Rattle.held_times.proofs.walks.walk.Given as goal

abbrev pub invariant-loop-met : goal.invariant-loop-met
invariant-loop-met g l = record {
  sweeping : (g.W.Whole.view l.w).sweeping ≡ false;
  half : (g.W.Whole.view l.w).half ≡ None;
}
