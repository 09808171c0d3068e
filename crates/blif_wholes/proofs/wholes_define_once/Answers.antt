use Rattle.blif_wholes.proofs.WholeOnce.{wholes_define_once}
use Rattle.blif_wholes.proofs.wholes_define_once.Goals as goal

pub returns : goal.returns
returns c = wholes_define_once
