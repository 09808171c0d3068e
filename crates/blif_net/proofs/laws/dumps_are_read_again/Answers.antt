use Rattle.blif_net.proofs.DumpedTexts.{dumped}
use Rattle.blif_net.proofs.laws.dumps_are_read_again.Goals as goal

pub returns : goal.returns
returns c = dumped
