use Rattle.blif_formals.proofs.WordIndex.{numbers_stay}
use Rattle.blif_formals.proofs.numbers_stay.Goals as goal

pub returns : goal.returns
returns c = numbers_stay
