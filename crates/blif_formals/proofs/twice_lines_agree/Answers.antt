use Rattle.blif_formals.proofs.DefinedTwice.{twice_lines_agree}
use Rattle.blif_formals.proofs.twice_lines_agree.Goals as goal

pub returns : goal.returns
returns c = twice_lines_agree
