use Rattle.std.proofs.Common.{◌≡◌, length, map, take}
use Rattle.blif_net.proofs.ending.uses_of.Given as goal

abbrev pub invariant-loop-spot : goal.invariant-loop-spot
invariant-loop-spot l = record {
  spots : map (λ one. one.spot) l.uses.items ≡ take (length l.yielded) l.spots;
  lines : map (λ one. one.line) l.uses.items ≡ take (length l.yielded) l.lines;
}
