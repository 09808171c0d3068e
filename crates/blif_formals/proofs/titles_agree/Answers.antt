use Rattle.blif_formals.proofs.Titled.{titles_agree}
use Rattle.blif_formals.proofs.titles_agree.Goals as goal

pub returns : goal.returns
returns c = titles_agree
