use Rattle.std.proofs.Common.{◌+◌, length}
use Rattle.blif_models.specs.Ranks.{IsRanking, count_above}
use Rattle.blif_models.proofs.ranks.Ranking.lower_from.Given as goal

abbrev pub invariant-loop-next : goal.invariant-loop-next
invariant-loop-next l = IsRanking l.holds l.rank l.self.ranks.items l.self.left.items

abbrev pub decreases-loop-next : goal.decreases-loop-next
decreases-loop-next l = count_above l.rank l.self.ranks.items + length l.self.left.items
