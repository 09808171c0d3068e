use Rattle.blif_formals.proofs.InLines.{lines_agree}
use Rattle.blif_formals.proofs.lines_agree.Goals as goal

pub returns : goal.returns
returns c = lines_agree
