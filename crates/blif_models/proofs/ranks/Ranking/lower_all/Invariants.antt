use Rattle.std.proofs.Common.{take}
use Rattle.blif_models.specs.Ranks.{Lowers}
use Rattle.blif_models.proofs.ranks.Ranking.lower_all.Given as goal

abbrev pub invariant-loop-model : goal.invariant-loop-model
invariant-loop-model l = Lowers l.rank l.initial.self.ranks.items l.initial.self.left.items (take l.model-index l.models) l.self.ranks.items l.self.left.items
