use Rattle.blif_models.proofs.HoldingThemselves.{reached_agrees}
use Rattle.blif_models.proofs.reached_agrees.Goals as goal

pub returns : goal.returns
returns c = reached_agrees
