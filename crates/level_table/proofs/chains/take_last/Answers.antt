use Rattle.std.proofs.Common.{arith}
use Rattle.std.proofs.lemmas.Grind.{moves}
use Rattle.level_table.proofs.chains.take_last.Goals as goal

pub returns-clause-chains : goal.returns-clause-chains
returns-clause-chains c = grind (arith, moves)
