use Rattle.node_slots.specs.Stores.{lent_room}
use Rattle.std.proofs.Common.{ap}
use Rattle.words_rule.specs.Steppers.{knows}
use Rattle.words_rule.proofs.Steppers.{same_on}
use Rattle.words_rule.proofs.stepper.StepperSteps.load_level.Goals as goal

pub returns-clause-own : goal.returns-clause-own
returns-clause-own g c = let s = c.args.self.now in same_on g.S.Content.free_slots g.S.Content.memo s.guard.now s.pass c.load_level.new.pass s.free s.memo (lent_room s.scratch) c.requires.own c.load_level.ensures.own c.load_level.ensures.same

pub returns-clause-same : goal.returns-clause-same
returns-clause-same g c = let s = c.args.self.now in ap (λ m. knows m.0 (lent_room s.scratch)) c.load_level.ensures.same
