use Rattle.job_words.proofs.Digits.{digits_in}
use Rattle.job_words.proofs.text.number_value.Goals as goal

pub digits_value-requires : goal.digits_value-requires
digits_value-requires c = digits_in c.args.word.now c.requires
