use Rattle.node_slots.specs.Stores.{lent_room}
use Rattle.computed_cache.specs.Entries.{place_of, places}
use Rattle.words_rule.specs.Passes.{view}
use Rattle.words_rule.specs.Steppers.{knows}
use Rattle.words_rule.proofs.Steppers.{answer_small, answers_put, key_small, memo_put_on}
use Rattle.words_rule.proofs.stepper.StepperSteps.remember.Goals as goal

pub put-requires-clause-key : goal.put-requires-clause-key
put-requires-clause-key g c = let s = c.args.self.now in key_small (knows (view s.pass) (lent_room s.scratch)) c.requires.own.stands c.args.key c.requires.key

pub put-requires-clause-edge : goal.put-requires-clause-edge
put-requires-clause-edge g c = let s = c.args.self.now in answer_small (knows (view s.pass) (lent_room s.scratch)) c.requires.own.stands c.args.key c.args.edge c.requires.holds

pub returns-in-Some-clause-own : goal.returns-in-Some-clause-own
returns-in-Some-clause-own g c =
    let s = c.args.self.now in
    let old = g.S.Content.memo c.in-Some.content in
    let e = c.put.ensures in
    memo_put_on g.S.Content.free_slots g.S.Content.memo s.guard.now s.pass s.pass s.free s.memo (lent_room s.scratch) c.requires.own c.in-Some.content c.put.new.self c.in-Some.is
    (answers_put (knows (view s.pass) (lent_room s.scratch)).view old (g.S.Content.memo c.put.new.self) c.args.key c.args.edge (place_of c.args.key (places old)) (c.requires.own.answers c.in-Some.content c.in-Some.is) e.places e.put e.others c.requires.holds)
