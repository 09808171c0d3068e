use Rattle.blif_net.proofs.Bounds.{bounded}
use Rattle.blif_net.proofs.laws.networks_are_bounded.Goals as goal

pub returns : goal.returns
returns c = bounded
