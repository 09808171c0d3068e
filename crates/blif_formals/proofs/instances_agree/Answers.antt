use Rattle.blif_formals.proofs.Entering.{instances_agree}
use Rattle.blif_formals.proofs.instances_agree.Goals as goal

pub returns : goal.returns
returns c = instances_agree
