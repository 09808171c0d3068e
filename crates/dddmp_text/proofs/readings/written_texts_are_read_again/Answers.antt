use Rattle.dddmp_text.proofs.ReadAgain.{read_again}
use Rattle.dddmp_text.proofs.readings.written_texts_are_read_again.Goals as goal

pub returns : goal.returns
returns c = read_again
