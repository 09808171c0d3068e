use Rattle.blif_models.proofs.Agreeing.{expansions_agree}
use Rattle.blif_models.proofs.expansions_agree.Goals as goal

pub returns : goal.returns
returns c = expansions_agree
