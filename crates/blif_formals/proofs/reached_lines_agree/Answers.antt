use Rattle.blif_formals.proofs.ReachedLines.{reached_lines_agree}
use Rattle.blif_formals.proofs.reached_lines_agree.Goals as goal

pub returns : goal.returns
returns c = reached_lines_agree
