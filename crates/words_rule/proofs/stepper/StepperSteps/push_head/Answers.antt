use Rattle.node_slots.specs.Stores.{lent_room}
use Rattle.std.proofs.Common.{ap}
use mathlib.Core.Logic.{dite}
use native.Mathlib.Decide.{ℕ_discrete}
use Rattle.words_rule.specs.Passes.{view}
use Rattle.words_rule.specs.Steppers.{knows}
use Rattle.words_rule.proofs.Steppers.{head_pushed_on, noted_there, link_back, same_view_on}
use Rattle.words_rule.proofs.stepper.StepperSteps.push_head.Goals as goal

pub push_head-found-requires-clause-linked : goal.push_head-found-requires-clause-linked
push_head-found-requires-clause-linked g c = link_back (view c.args.self.now.pass).hand c.args.slot c.args.link c.requires.linked

pub push_head-found-requires-clause-noted : goal.push_head-found-requires-clause-noted
push_head-found-requires-clause-noted g c = let n = c.requires.noted in let k = noted_there (view c.args.self.now.pass).known.words c.args.slot n.0 n.1 in (n.0, k.0, k.1, n.2)

pub returns-clause-own : goal.returns-clause-own
returns-clause-own g c = let s = c.args.self.now in let e = c.push_head-found.ensures in dite (ℕ_discrete c.push_head-found.result c.args.link)
    (λ hit. head_pushed_on g.S.Content.free_slots g.S.Content.memo s.guard.now s.pass c.push_head-found.new.pass s.free s.memo (lent_room s.scratch) c.requires.own e.own.0 e.own.1 (e.done hit))
    (λ miss. same_view_on g.S.Content.free_slots g.S.Content.memo s.guard.now s.pass c.push_head-found.new.pass s.free s.memo (lent_room s.scratch) c.requires.own e.own.0 e.own.1 (e.missed miss))

pub returns-clause-pushed : goal.returns-clause-pushed
returns-clause-pushed g c = λ hit. let s = c.args.self.now in ap (λ v. knows v (lent_room s.scratch)) (c.push_head-found.ensures.done (c.found_link.ensures.same hit))

pub returns-clause-missed : goal.returns-clause-missed
returns-clause-missed g c = λ miss. let s = c.args.self.now in ap (λ v. knows v (lent_room s.scratch)) (c.push_head-found.ensures.missed (λ hit. miss (c.found_link.ensures.other hit)))
