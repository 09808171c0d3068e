use Rattle.sift_laws.proofs.WholeLists.{wholes_one}
use Rattle.sift_laws.proofs.alike.wholes_are_alike.Goals as goal

pub returns : goal.returns
returns c = wholes_one
