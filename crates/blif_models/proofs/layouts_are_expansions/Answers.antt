use Rattle.blif_models.proofs.Expansions.{layouts_are_expansions}
use Rattle.blif_models.proofs.layouts_are_expansions.Goals as goal

pub returns : goal.returns
returns c = layouts_are_expansions
