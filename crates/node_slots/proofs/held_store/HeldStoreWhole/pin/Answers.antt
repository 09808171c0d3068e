use Rattle.std.proofs.Common.{true, sym, subst, arith}
use Rattle.std.proofs.lemmas.Grind.{common_steps}
use Rattle.node_store.specs.Contents.{IsUsed}
use Rattle.node_slots.specs.Held.{held_view}
use Rattle.node_slots.specs.contracts.held_store.HeldStore.{the_view}
use Rattle.node_slots.proofs.HeldMarks.{pinned_after, pinned_held, used_within, used_on}
use Rattle.node_slots.proofs.held_store.HeldStoreWhole.pin.Goals as goal

pub invariant_of-self : goal.invariant_of-self
invariant_of-self c =
    let q = the_view c.self.inside in
    let used = subst (λ h. IsUsed (held_view h) c.args.slot) (sym c.self.view_is) c.requires.used in
    pinned_held q c.args.self.now c.self.view_is c.self.invariant c.args.slot true c.set_pin.new.self (used_within q c.self.invariant c.args.slot used) (used_on q c.args.slot true used) c.set_pin.ensures

pub returns : goal.returns
returns c =
    let q = the_view c.self.inside in
    let used = subst (λ h. IsUsed (held_view h) c.args.slot) (sym c.self.view_is) c.requires.used in
    pinned_after q c.args.self.now c.self.view_is c.self.invariant c.args.slot true c.set_pin.new.self (used_within q c.self.invariant c.args.slot used) (used_on q c.args.slot true used) c.set_pin.ensures

pub set_pin-requires : goal.set_pin-requires
set_pin-requires c = grind (arith, common_steps)
