use Rattle.std.proofs.Common.{◌≡◌, map}
use Rattle.std.specs.List.{range_with_len}
use Rattle.dddmp_text.specs.Ranks.{placed}
use Rattle.dddmp_text.proofs.sorting.placed.Given as goal

abbrev pub invariant-loop-place : goal.invariant-loop-place
invariant-loop-place l = l.pairs.items ≡ map (placed l.entries) (range_with_len 0 l.place)
