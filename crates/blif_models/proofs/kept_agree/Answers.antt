use Rattle.blif_models.proofs.KeptReached.{kept_agree}
use Rattle.blif_models.proofs.kept_agree.Goals as goal

pub returns : goal.returns
returns c = kept_agree
