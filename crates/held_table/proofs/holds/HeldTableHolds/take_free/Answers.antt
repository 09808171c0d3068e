use Rattle.std.proofs.Common.{refl}
use Rattle.held_table.specs.Tables.{free_in}
use Rattle.held_table.proofs.holds.HeldTableHolds.take_free.Goals as goal

pub returns-clause-taken : goal.returns-clause-taken
returns-clause-taken c = λ is. (free_in c.args.self.now, refl)
