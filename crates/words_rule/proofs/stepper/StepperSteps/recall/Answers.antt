use Rattle.node_slots.specs.Stores.{lent_room}
use Rattle.computed_cache.specs.Entries.{place_of, places}
use Rattle.words_rule.specs.Passes.{view}
use Rattle.words_rule.specs.Steppers.{knows}
use Rattle.words_rule.proofs.Steppers.{answer_holds, key_small}
use Rattle.words_rule.proofs.stepper.StepperSteps.recall.Goals as goal

pub get-requires : goal.get-requires
get-requires g c = let s = c.args.self.now in key_small (knows (view s.pass) (lent_room s.scratch)) c.requires.own.stands c.args.key.now c.requires.key

pub returns-in-Some-clause-hit : goal.returns-in-Some-clause-hit
returns-in-Some-clause-hit g c =
    let s = c.args.self.now in
    let memo = g.S.Content.memo c.in-Some.content in
    answer_holds (knows (view s.pass) (lent_room s.scratch)).view memo c.args.key.now (place_of c.args.key.now (places memo)) c.get.result (c.requires.own.answers c.in-Some.content c.in-Some.is) c.get.ensures.some
