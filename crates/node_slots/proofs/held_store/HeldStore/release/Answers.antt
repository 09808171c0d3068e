use Rattle.std.proofs.Common.{None, ◌≡◌, subst, sym}
use Rattle.node_slots.specs.contracts.held_store.HeldStore.{the_view}
use Rattle.node_slots.specs.Held.{Held, held_view}
use Rattle.node_slots.proofs.HeldReturning.{given_back}
use Rattle.node_slots.proofs.held_store.HeldStore.release.Goals as goal

pub invariant_of-result : goal.invariant_of-result
invariant_of-result c =
    let q = the_view c.self.inside in
    rw c.forget_arcs.ensures (given_back q.plain q.half q.chain (subst (λ (x : Held). (held_view x).half ≡ None) (sym c.self.view_is) c.requires) c.self.invariant)
