use Rattle.blif_wholes.proofs.LineOrder.{cycles_by_line}
use Rattle.blif_wholes.proofs.cycles_by_line.Goals as goal

pub returns : goal.returns
returns c = cycles_by_line
