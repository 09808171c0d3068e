use Rattle.node_slots.specs.contracts.plain_store.PlainStore.{the_view}
use Rattle.node_slots.proofs.Making.{lent-store}
use Rattle.node_slots.proofs.plain_store.PlainStoreGrow.take_scratch.Goals as goal

pub invariant_of-self : goal.invariant_of-self
invariant_of-self c = let p = the_view c.self.inside in lent-store p c.self.invariant _ p.memo c.self.invariant.remembered
