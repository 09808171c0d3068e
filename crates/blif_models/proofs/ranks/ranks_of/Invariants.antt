use Rattle.std.proofs.Common.{◌≡◌, length, []}
use Rattle.blif_models.specs.Ranks.{AreRanks}
use Rattle.blif_models.proofs.ranks.ranks_of.Given as goal

abbrev pub invariant-loop-place : goal.invariant-loop-place
invariant-loop-place l = record {
  many : length l.ranking.ranks.items ≡ length l.holds;
  left : l.ranking.left.items ≡ [];
  ranks : AreRanks l.holds l.ranking.ranks.items;
}
