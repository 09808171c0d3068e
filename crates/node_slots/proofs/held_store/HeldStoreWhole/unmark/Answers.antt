use Rattle.std.proofs.Common.{false}
use Rattle.node_slots.specs.contracts.held_store.HeldStore.{the_view}
use Rattle.node_slots.proofs.HeldMarks.{marked_after, marked_held}
use Rattle.node_slots.proofs.held_store.HeldStoreWhole.unmark.Goals as goal

pub invariant_of-self : goal.invariant_of-self
invariant_of-self c = marked_held (the_view c.self.inside) c.args.self.now c.self.view_is c.self.invariant c.args.slot false c.set_mark.new.self c.set_mark.ensures

pub returns : goal.returns
returns c = marked_after (the_view c.self.inside) c.args.self.now c.self.view_is c.self.invariant c.args.slot false c.set_mark.new.self c.requires c.set_mark.ensures
