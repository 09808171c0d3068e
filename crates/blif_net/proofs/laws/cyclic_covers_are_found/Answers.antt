use Rattle.blif_net.proofs.OnCycles.{cycles_found}
use Rattle.blif_net.proofs.laws.cyclic_covers_are_found.Goals as goal

pub returns : goal.returns
returns c = cycles_found
