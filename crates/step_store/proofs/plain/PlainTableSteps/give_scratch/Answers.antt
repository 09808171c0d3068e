use Rattle.std.proofs.Common.{refl}
use Rattle.step_store.proofs.Moves.{lends}
use Rattle.step_store.proofs.plain.PlainTableSteps.give_scratch.Goals as goal

pub returns-clause-own : goal.returns-clause-own
returns-clause-own c = lends c.args.self.now.core _ c.requires.own refl
