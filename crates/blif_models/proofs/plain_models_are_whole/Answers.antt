use Rattle.blif_models.proofs.PlainModels.{whole_plain}
use Rattle.blif_models.proofs.plain_models_are_whole.Goals as goal

pub returns : goal.returns
returns c = whole_plain
