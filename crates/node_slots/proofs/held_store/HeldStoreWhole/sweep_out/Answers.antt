use Rattle.node_slots.specs.contracts.held_store.HeldStore.{the_view}
use Rattle.node_slots.proofs.HeldMarks.{ended_after, ended_held}
use Rattle.node_slots.proofs.held_store.HeldStoreWhole.sweep_out.Goals as goal

pub invariant_of-self : goal.invariant_of-self
invariant_of-self c = ended_held (the_view c.self.inside) c.args.self.now c.self.view_is c.self.invariant

pub returns : goal.returns
returns c = ended_after (the_view c.self.inside) c.args.self.now c.self.view_is c.self.invariant
