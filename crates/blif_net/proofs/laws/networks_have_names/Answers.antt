use Rattle.blif_net.proofs.NetNames.{networks_have_names}
use Rattle.blif_net.proofs.laws.networks_have_names.Goals as goal

pub returns : goal.returns
returns c = networks_have_names
