use Rattle.node_slots.specs.contracts.held_store.HeldStore.{the_view}
use Rattle.node_slots.proofs.HeldLaws.{after_none}
use Rattle.node_slots.proofs.held_store.HeldStoreWhole.var_of.Goals as goal

pub returns-clause-after : goal.returns-clause-after
returns-clause-after c = after_none (the_view c.self.inside) c.args.self.now c.self.view_is c.self.invariant
