use Rattle.node_slots.specs.Stores.{lent_room}
use Rattle.std.proofs.Common.{ap}
use Rattle.words_rule.specs.Steppers.{knows}
use Rattle.words_rule.proofs.Steppers.{turn_taken_on}
use Rattle.words_rule.proofs.stepper.StepperSteps.take_turn.Goals as goal

pub returns-clause-own : goal.returns-clause-own
returns-clause-own g c = let s = c.args.self.now in let e = c.take_turn.ensures in turn_taken_on g.S.Content.free_slots g.S.Content.memo s.guard.now s.pass c.take_turn.new.pass s.free s.memo (lent_room s.scratch) c.requires.own e.own.0 e.own.1 c.args.level c.requires.within c.take_turn.result e.taken e.missed

pub returns-clause-taken : goal.returns-clause-taken
returns-clause-taken g c = λ is. let s = c.args.self.now in ap (λ v. knows v (lent_room s.scratch)) (c.take_turn.ensures.taken is)

pub returns-clause-missed : goal.returns-clause-missed
returns-clause-missed g c = λ is. let s = c.args.self.now in ap (λ v. knows v (lent_room s.scratch)) (c.take_turn.ensures.missed is)
