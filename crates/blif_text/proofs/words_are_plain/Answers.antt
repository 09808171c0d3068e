use Rattle.blif_text.proofs.Marks.{words_are_plain}
use Rattle.blif_text.proofs.words_are_plain.Goals as goal

pub returns : goal.returns
returns c = words_are_plain
