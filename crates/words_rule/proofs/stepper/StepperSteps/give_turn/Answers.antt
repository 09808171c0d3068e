use Rattle.node_slots.specs.Stores.{lent_room}
use Rattle.std.proofs.Common.{◌∙◌, None, ap}
use Rattle.step_store.specs.Knowing.{handed}
use Rattle.words_rule.specs.Known.{taken_of}
use Rattle.words_rule.specs.Passes.{view}
use Rattle.words_rule.specs.Steppers.{knows}
use Rattle.words_rule.proofs.HandClauses.{none_back, stands_at, without_same}
use Rattle.words_rule.proofs.Steppers.{turn_given_on}
use Rattle.words_rule.proofs.stepper.StepperSteps.give_turn.Goals as goal

pub give_turn-requires-clause-within : goal.give_turn-requires-clause-within
give_turn-requires-clause-within g c = c.requires.own.within.turn c.args.level c.requires.has

pub give_turn-requires-clause-has : goal.give_turn-requires-clause-has
give_turn-requires-clause-has g c = stands_at (view c.args.self.now.pass).hand.levels c.args.level c.requires.has

pub give_turn-requires-clause-calm : goal.give_turn-requires-clause-calm
give_turn-requires-clause-calm g c = (none_back taken_of (view c.args.self.now.pass).hand.taken c.requires.calm.0, c.requires.calm.1)

pub returns-clause-own : goal.returns-clause-own
returns-clause-own g c = let s = c.args.self.now in let e = c.give_turn.ensures in turn_given_on g.S.Content.free_slots g.S.Content.memo s.guard.now s.pass c.give_turn.new.pass s.free s.memo (lent_room s.scratch) c.requires.own e.own.0 e.own.1 c.args.level e.given

pub returns-clause-given : goal.returns-clause-given
returns-clause-given g c = let s = c.args.self.now in let k = knows (view s.pass) (lent_room s.scratch) in ap (λ v. knows v (lent_room s.scratch)) c.give_turn.ensures.given ∙ ap (λ l. handed k (record k.hand { levels = l; walk = None })) (without_same c.args.level (view s.pass).hand.levels)
