use Rattle.blif_drafts.proofs.GoingOn.{drafts_last}
use Rattle.blif_drafts.proofs.drafts_last.Goals as goal

pub returns : goal.returns
returns c = drafts_last
