use Rattle.std.proofs.Common.{refl}
use Rattle.computed_cache.specs.Entries.{place_of, places}
use Rattle.node_slots.proofs.Remembering.{key_small, remembered_hit}
use Rattle.step_store.specs.Plain.{store_of}
use Rattle.step_store.proofs.plain.PlainTableSteps.recall.Goals as goal

pub get-requires : goal.get-requires
get-requires c = let p = store_of c.args.self.now.core in key_small p p refl c.requires.own.store c.args.key.now c.requires.key

pub returns-clause-hit : goal.returns-clause-hit
returns-clause-hit c = let p = store_of c.args.self.now.core in remembered_hit p p refl c.requires.own.store c.args.key.now (place_of c.args.key.now (places p.memo)) c.get.result c.get.ensures.some
