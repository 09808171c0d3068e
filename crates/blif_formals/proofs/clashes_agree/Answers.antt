use Rattle.blif_formals.proofs.ByNames.{clashes_agree}
use Rattle.blif_formals.proofs.clashes_agree.Goals as goal

pub returns : goal.returns
returns c = clashes_agree
