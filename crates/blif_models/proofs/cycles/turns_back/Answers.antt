use Rattle.std.proofs.Common.{arith, sym}
use Rattle.blif_models.specs.Ranks.{rank_of}
use Rattle.blif_models.proofs.Rankings.{lower_is_passed}
use Rattle.blif_models.proofs.cycles.turns_back.Goals as goal

pub returns-then-ranks-one : goal.returns-then-ranks-one
returns-then-ranks-one c = sym (lower_is_passed c.args.holds.now (rank_of c.args.ranks.now) c.args.one c.requires.ranks (omega (arith, c.if-ranks-one.true)))
