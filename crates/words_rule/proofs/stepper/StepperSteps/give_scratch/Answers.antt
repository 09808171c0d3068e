use Rattle.node_slots.specs.Stores.{lent_room}
use Rattle.std.proofs.Common.{refl}
use Rattle.node_store.specs.Stacks.{levels_in}
use Rattle.words_rule.proofs.Steppers.{content_on}
use Rattle.words_rule.proofs.stepper.StepperSteps.give_scratch.Goals as goal

pub returns-clause-own : goal.returns-clause-own
returns-clause-own g c = let s = c.args.self.now in content_on g.S.Content.free_slots g.S.Content.memo s.guard.now s.pass s.pass s.free s.memo (lent_room s.scratch) c.requires.own s.free s.memo (levels_in c.args.stack) refl c.requires.own.roomy refl refl c.requires.own.answers
