use Rattle.blif_models.proofs.WithinLimits.{wholes_are_within_limits}
use Rattle.blif_models.proofs.wholes_are_within_limits.Goals as goal

pub returns : goal.returns
returns c = wholes_are_within_limits
