use Rattle.blif_drafts.proofs.GoingOn.{lines_go_on}
use Rattle.blif_drafts.proofs.lines_go_on.Goals as goal

pub returns : goal.returns
returns c = lines_go_on
