use Rattle.std.proofs.Common.{subst}
use Rattle.computed_cache.specs.Entries.{place_of, places}
use Rattle.node_store.specs.Views.{Kept}
use Rattle.node_slots.specs.Stores.{plain_view}
use Rattle.node_slots.specs.contracts.plain_store.PlainStore.{the_view}
use Rattle.node_slots.proofs.Making.{after_lending, lent-kept, lent-store}
use Rattle.node_slots.proofs.Remembering.{answer_small, key_small, remembered_put}
use Rattle.node_slots.proofs.plain_store.PlainStoreGrow.memo_put.Goals as goal

pub put-requires-clause-key : goal.put-requires-clause-key
put-requires-clause-key c = key_small (the_view c.self.inside) c.args.self.now c.self.view_is c.self.invariant c.args.key c.requires.key

pub put-requires-clause-edge : goal.put-requires-clause-edge
put-requires-clause-edge c = answer_small (the_view c.self.inside) c.args.self.now c.self.view_is c.self.invariant c.args.key c.args.edge c.requires.holds

pub invariant_of-self : goal.invariant_of-self
invariant_of-self c =
    let q = the_view c.self.inside in
    lent-store q c.self.invariant q.scratch_room c.put.new.self
    (remembered_put q c.args.self.now c.self.view_is c.self.invariant c.args.key c.args.edge c.put.new.self (place_of c.args.key (places q.memo)) c.put.ensures.put c.put.ensures.others c.requires.holds)

pub returns-clause-kept : goal.returns-clause-kept
returns-clause-kept c =
    let q = the_view c.self.inside in
    subst (λ x. Kept (plain_view x) (plain_view (after_lending q q.scratch_room c.put.new.self))) c.self.view_is (lent-kept q c.self.invariant q.scratch_room c.put.new.self)
