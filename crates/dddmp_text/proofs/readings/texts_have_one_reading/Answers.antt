use Rattle.dddmp_text.proofs.OneReading.{each_has_one}
use Rattle.dddmp_text.proofs.readings.texts_have_one_reading.Goals as goal

pub returns-clause-each_has_one : goal.returns-clause-each_has_one
returns-clause-each_has_one c = each_has_one
