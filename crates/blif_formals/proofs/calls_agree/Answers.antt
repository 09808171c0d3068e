use Rattle.blif_formals.proofs.Calling.{calls_agree}
use Rattle.blif_formals.proofs.calls_agree.Goals as goal

pub returns : goal.returns
returns c = calls_agree
