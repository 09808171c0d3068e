use Rattle.std.proofs.Common.{◌≡◌, map, take}
use Rattle.dddmp_text.proofs.ByRank.{Entry}
use Rattle.dddmp_text.proofs.sorting.places_by_rank.Given as goal

abbrev pub invariant-loop-rank : goal.invariant-loop-rank
invariant-loop-rank l = l.places.items ≡ map (λ (pair : Entry). pair.1) (take l.rank l.pairs.items)
