use Rattle.node_slots.specs.Stores.{lent_room}
use Rattle.std.proofs.Common.{ap}
use Rattle.words_rule.specs.Passes.{view}
use Rattle.words_rule.specs.Steppers.{knows}
use Rattle.words_rule.proofs.Steppers.{link_stored_on, owns_back, owned_within}
use Rattle.words_rule.proofs.stepper.StepperSteps.store_next.Goals as goal

pub store_next-requires-clause-within : goal.store_next-requires-clause-within
store_next-requires-clause-within g c = owned_within _ c.requires.own.within c.args.slot c.requires.owns

pub store_next-requires-clause-owns : goal.store_next-requires-clause-owns
store_next-requires-clause-owns g c = owns_back (view c.args.self.now.pass).hand c.args.slot c.requires.owns

pub returns-clause-own : goal.returns-clause-own
returns-clause-own g c = let s = c.args.self.now in let e = c.store_next.ensures in link_stored_on g.S.Content.free_slots g.S.Content.memo s.guard.now s.pass c.store_next.new.pass s.free s.memo (lent_room s.scratch) c.requires.own e.own.0 e.own.1 c.args.slot c.args.link e.stored

pub returns-clause-stored : goal.returns-clause-stored
returns-clause-stored g c = let s = c.args.self.now in ap (λ v. knows v (lent_room s.scratch)) c.store_next.ensures.stored
