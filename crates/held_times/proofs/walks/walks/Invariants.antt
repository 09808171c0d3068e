use Rattle.std.proofs.Common.{◌≡◌, false, None}
use Rattle.held_times.proofs.walks.walks.Given as goal

abbrev pub invariant-loop : goal.invariant-loop
invariant-loop g l = record {
  sweeping : (g.W.Whole.view l.w).sweeping ≡ false;
  half : (g.W.Whole.view l.w).half ≡ None;
}
