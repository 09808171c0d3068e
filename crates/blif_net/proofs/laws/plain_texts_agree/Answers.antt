use Rattle.blif_net.proofs.PlainTexts.{plain_texts_agree}
use Rattle.blif_net.proofs.laws.plain_texts_agree.Goals as goal

pub returns : goal.returns
returns c = plain_texts_agree
