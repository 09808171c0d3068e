use Rattle.blif_net.proofs.Completeness.{each_has_one}
use Rattle.blif_net.proofs.OneNet.{one_net}
use Rattle.blif_net.proofs.laws.texts_have_one_reading.Goals as goal

pub returns-clause-each_has_one : goal.returns-clause-each_has_one
returns-clause-each_has_one c = each_has_one

pub returns-clause-one_net : goal.returns-clause-one_net
returns-clause-one_net c = one_net
