use Rattle.std.proofs.Common.{refl}
use Rattle.computed_cache.specs.Entries.{place_of, places}
use Rattle.node_slots.proofs.Remembering.{answer_small, key_small, remembered_put}
use Rattle.step_store.specs.Plain.{store_of}
use Rattle.step_store.proofs.Moves.{remembers}
use Rattle.step_store.proofs.plain.PlainTableSteps.remember.Goals as goal

pub put-requires-clause-key : goal.put-requires-clause-key
put-requires-clause-key c = let p = store_of c.args.self.now.core in key_small p p refl c.requires.own.store c.args.key c.requires.key

pub put-requires-clause-edge : goal.put-requires-clause-edge
put-requires-clause-edge c = let p = store_of c.args.self.now.core in answer_small p p refl c.requires.own.store c.args.key c.args.edge c.requires.holds

pub returns-clause-own : goal.returns-clause-own
returns-clause-own c =
    let p = store_of c.args.self.now.core in
    remembers c.args.self.now.core _ c.requires.own refl (remembered_put p p refl c.requires.own.store c.args.key c.args.edge c.put.new.self (place_of c.args.key (places p.memo)) c.put.ensures.put c.put.ensures.others c.requires.holds)
