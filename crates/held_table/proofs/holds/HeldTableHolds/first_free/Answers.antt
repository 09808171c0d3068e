use Rattle.held_table.proofs.Frees.{tells_first, tells_none}
use Rattle.held_table.proofs.holds.HeldTableHolds.first_free.Goals as goal

pub returns-clause-some : goal.returns-clause-some
returns-clause-some c = tells_first c.args.self.now c.requires.free.0 c.requires.free.1 c.first_of.result c.first_of.ensures.some

pub returns-clause-none : goal.returns-clause-none
returns-clause-none c = tells_none c.args.self.now c.requires.free.0 c.requires.free.1 c.first_of.result c.first_of.ensures.none
