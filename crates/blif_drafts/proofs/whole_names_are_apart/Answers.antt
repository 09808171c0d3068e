use Rattle.blif_drafts.proofs.NamesApart.{whole_names_apart}
use Rattle.blif_drafts.proofs.whole_names_are_apart.Goals as goal

pub returns : goal.returns
returns c = whole_names_apart
