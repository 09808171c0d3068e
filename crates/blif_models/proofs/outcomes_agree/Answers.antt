use Rattle.blif_models.proofs.TurningLines.{outcomes_agree}
use Rattle.blif_models.proofs.outcomes_agree.Goals as goal

pub returns : goal.returns
returns c = outcomes_agree
