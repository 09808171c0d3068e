use Rattle.sift_laws.proofs.RisingOrders.{sifts_by_functions}
use Rattle.sift_laws.proofs.alike.sifts_go_by_functions.Goals as goal

pub returns : goal.returns
returns c = sifts_by_functions
