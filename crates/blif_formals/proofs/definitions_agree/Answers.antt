use Rattle.blif_formals.proofs.Defining.{definitions_agree}
use Rattle.blif_formals.proofs.definitions_agree.Goals as goal

pub returns : goal.returns
returns c = definitions_agree
