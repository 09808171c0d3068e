use Rattle.std.proofs.Common.{ap}
use Rattle.node_store.specs.Contents.{is_leaf}
use Rattle.node_slots.specs.Held.{Held}
use Rattle.node_slots.specs.contracts.held_store.HeldStore.{the_view}
use Rattle.node_slots.proofs.Looking.{least_from}
use Rattle.node_slots.proofs.held_store.HeldStoreWhole.next_leaf.Goals as goal

pub returns-clause-next : goal.returns-clause-next
returns-clause-next c =
    let e = c.next_number.ensures in
    least_from (the_view c.self.inside).plain c.args.self.now.plain (ap (λ (x : Held). x.plain) c.self.view_is) is_leaf c.words.result.now c.args.from c.next_number.result c.words.ensures.words e.found e.least e.none
