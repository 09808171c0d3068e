use Rattle.computed_cache.specs.Entries.{place_of, places}
use Rattle.node_slots.specs.contracts.plain_store.PlainStore.{the_view}
use Rattle.node_slots.proofs.Remembering.{key_small, remembered_hit}
use Rattle.node_slots.proofs.plain_store.PlainStoreGrow.memo_get.Goals as goal

pub get-requires : goal.get-requires
get-requires c = key_small (the_view c.self.inside) c.args.self.now c.self.view_is c.self.invariant c.args.key.now c.requires

pub returns-clause-hit : goal.returns-clause-hit
returns-clause-hit c =
    let q = the_view c.self.inside in
    remembered_hit q c.args.self.now c.self.view_is c.self.invariant c.args.key.now (place_of c.args.key.now (places q.memo)) c.get.result c.get.ensures.some
