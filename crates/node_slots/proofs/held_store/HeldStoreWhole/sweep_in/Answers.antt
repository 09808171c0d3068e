use Rattle.node_slots.specs.contracts.held_store.HeldStore.{the_view}
use Rattle.node_slots.proofs.HeldMarks.{unlinked_after, unlinked_held}
use Rattle.node_slots.proofs.held_store.HeldStoreWhole.sweep_in.Goals as goal

pub invariant_of-self : goal.invariant_of-self
invariant_of-self c = unlinked_held (the_view c.self.inside) c.args.self.now c.self.view_is c.self.invariant c.unmark_all.new.self c.unmark_all.ensures c.unlink_stale.new.self c.unlink_stale.ensures

pub returns : goal.returns
returns c = unlinked_after (the_view c.self.inside) c.args.self.now c.self.view_is c.self.invariant c.unmark_all.new.self c.unmark_all.ensures c.unlink_stale.new.self c.unlink_stale.ensures
