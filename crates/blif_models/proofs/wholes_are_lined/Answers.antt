use Rattle.blif_models.proofs.LinedCovers.{wholes_are_lined}
use Rattle.blif_models.proofs.wholes_are_lined.Goals as goal

pub returns : goal.returns
returns c = wholes_are_lined
