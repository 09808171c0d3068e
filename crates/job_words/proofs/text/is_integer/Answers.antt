use Rattle.std.proofs.Common.{sym, ◌∙◌}
use Rattle.job_words.proofs.Digits.{digits_in}
use Rattle.job_words.proofs.text.is_integer.Goals as goal

pub digits_value-requires : goal.digits_value-requires
digits_value-requires c = digits_in c.magnitude-digits.result.now (sym c.is_number.ensures ∙ c.if-is_number.true)
