use Rattle.blif_wholes.proofs.SpotUses.{undefined_agrees}
use Rattle.blif_wholes.proofs.undefined_agrees.Goals as goal

pub returns : goal.returns
returns c = undefined_agrees
