use Rattle.std.proofs.Common.{refl}
use Rattle.held_table.proofs.holds.HeldTableHolds.take_memo.Goals as goal

pub returns-clause-taken : goal.returns-clause-taken
returns-clause-taken c = λ is. ((λ _. c.args.self.now.answers), refl)
