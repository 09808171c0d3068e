use Rattle.blif_formals.proofs.Numbering.{joins_agree}
use Rattle.blif_formals.proofs.joins_agree.Goals as goal

pub returns : goal.returns
returns c = joins_agree
