use Rattle.blif_models.proofs.NumberedGraphs.{numbered_are_graphs}
use Rattle.blif_models.proofs.numbered_models_are_graphs.Goals as goal

pub returns : goal.returns
returns c = numbered_are_graphs
