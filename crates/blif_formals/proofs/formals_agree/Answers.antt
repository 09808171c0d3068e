use Rattle.blif_formals.proofs.ByNames.{formals_agree}
use Rattle.blif_formals.proofs.formals_agree.Goals as goal

pub returns : goal.returns
returns c = formals_agree
