use Rattle.std.proofs.Common.{◌≡◌, true, false, refl, sym, subst, arith}
use Rattle.std.proofs.lemmas.Grind.{common_steps}
use Rattle.node_slots.specs.Held.{held_view}
use Rattle.node_slots.specs.contracts.held_store.HeldStore.{the_view}
use Rattle.node_slots.proofs.HeldMarks.{pinned_after, pinned_held, pinned_within}
use Rattle.node_slots.proofs.held_store.HeldStoreWhole.unpin.Goals as goal

pub invariant_of-self : goal.invariant_of-self
invariant_of-self c =
    let q = the_view c.self.inside in
    let on = subst (λ h. (held_view h).pinned c.args.slot ≡ true) (sym c.self.view_is) c.requires in
    pinned_held q c.args.self.now c.self.view_is c.self.invariant c.args.slot false c.set_pin.new.self (pinned_within q c.self.invariant c.args.slot on) (λ free. refl) c.set_pin.ensures

pub returns : goal.returns
returns c =
    let q = the_view c.self.inside in
    let on = subst (λ h. (held_view h).pinned c.args.slot ≡ true) (sym c.self.view_is) c.requires in
    pinned_after q c.args.self.now c.self.view_is c.self.invariant c.args.slot false c.set_pin.new.self (pinned_within q c.self.invariant c.args.slot on) (λ free. refl) c.set_pin.ensures

pub set_pin-requires : goal.set_pin-requires
set_pin-requires c = grind (arith, common_steps)
