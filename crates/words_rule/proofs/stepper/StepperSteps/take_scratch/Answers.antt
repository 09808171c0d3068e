use Rattle.node_slots.specs.Stores.{lent_room}
use Rattle.std.proofs.Common.{refl}
use Rattle.words_rule.proofs.Steppers.{content_on}
use Rattle.words_rule.proofs.stepper.StepperSteps.take_scratch.Goals as goal

pub returns-in-Some-clause-own : goal.returns-in-Some-clause-own
returns-in-Some-clause-own g c = let s = c.args.self.now in content_on g.S.Content.free_slots g.S.Content.memo s.guard.now s.pass s.pass s.free s.memo (lent_room s.scratch) c.requires s.free s.memo (lent_room c.take.new.self) refl c.requires.roomy refl refl c.requires.answers
