use Rattle.blif_models.proofs.TurningLines.{turnings_agree}
use Rattle.blif_models.proofs.turnings_agree.Goals as goal

pub returns : goal.returns
returns c = turnings_agree
