use Rattle.std.proofs.Common.{refl}
use Rattle.step_store.proofs.Moves.{lends}
use Rattle.step_store.proofs.plain.PlainTableSteps.take_scratch.Goals as goal

pub returns-in-Some-clause-own : goal.returns-in-Some-clause-own
returns-in-Some-clause-own c = lends c.args.self.now.core _ c.requires refl

pub returns-in-None-clause-own : goal.returns-in-None-clause-own
returns-in-None-clause-own c = lends c.args.self.now.core _ c.requires refl
