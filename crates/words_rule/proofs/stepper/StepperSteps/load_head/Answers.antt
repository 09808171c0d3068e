use Rattle.node_slots.specs.Stores.{lent_room}
use Rattle.std.proofs.Common.{ap, arith}
use Rattle.words_rule.specs.Passes.{view}
use Rattle.words_rule.specs.Steppers.{knows}
use Rattle.words_rule.proofs.HandClauses.{stands_at}
use Rattle.words_rule.proofs.Steppers.{head_loaded_on, link_few}
use Rattle.words_rule.proofs.stepper.StepperSteps.load_head.Goals as goal

pub load_head-requires-clause-has : goal.load_head-requires-clause-has
load_head-requires-clause-has g c = stands_at (view c.args.self.now.pass).hand.levels c.args.level c.requires.has

pub overflow_cast-result : goal.overflow_cast-result
overflow_cast-result g c = let l = c.load_head.ensures.loaded in let few = link_few (view c.args.self.now.pass).draws.slots l.0 l.3 in let most = c.requires.own.stands.few_slots in let is = l.2 in omega (arith, few, most, is)

pub returns-clause-own : goal.returns-clause-own
returns-clause-own g c = let s = c.args.self.now in head_loaded_on g.S.Content.free_slots g.S.Content.memo s.guard.now s.pass c.load_head.new.pass s.free s.memo (lent_room s.scratch) c.requires.own c.load_head.ensures.own c.args.head c.args.level c.load_head.result c.load_head.ensures.loaded

pub returns-clause-loaded : goal.returns-clause-loaded
returns-clause-loaded g c = let s = c.args.self.now in let l = c.load_head.ensures.loaded in (l.0, ap (λ m. knows m.0 (lent_room s.scratch)) l.1, l.2, l.3)
