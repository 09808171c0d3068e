use Rattle.std.proofs.Common.{◌≡◌, true, ap, subst, ◌∙◌}
use Rattle.edge_bits.specs.Reading.{slots_of}
use Rattle.node_store.specs.Contents.{is_node_of}
use Rattle.node_store.specs.Changes.{IsLeastFrom}
use Rattle.node_slots.specs.Held.{Held, held_view}
use Rattle.node_slots.specs.Stores.{slots}
use Rattle.node_slots.specs.contracts.held_store.HeldStore.{the_view}
use Rattle.node_slots.proofs.HeldWalking.{least_node, next_after, next_held, words_read}
use Rattle.node_slots.proofs.held_store.HeldStoreWhole.next_of.Goals as goal

pub invariant_of-self : goal.invariant_of-self
invariant_of-self c =
    let q = the_view c.self.inside in
    let n = c.next.new.self in
    next_held q c.args.self.now c.self.view_is c.self.invariant n c.next.ensures.marks c.next.ensures.pins (slots_of c.words.result.now) (words_read q c.words.result.now c.words.ensures.words) c.next.ensures.linked

pub returns-clause-after : goal.returns-clause-after
returns-clause-after c =
    let q = the_view c.self.inside in
    let n = c.next.new.self in
    next_after q c.args.self.now c.self.view_is c.self.invariant n c.next.ensures.marks c.next.ensures.pins (slots_of c.words.result.now) (words_read q c.words.result.now c.words.ensures.words) c.next.ensures.linked

pub returns-clause-next : goal.returns-clause-next
returns-clause-next c =
    let q = the_view c.self.inside in
    let h = c.args.self.now in
    let e = c.next.ensures in
    subst (λ v. IsLeastFrom (held_view h) (λ s. is_node_of v ((held_view h).word s) ≡ true) c.args.from c.next.result) c.number_at-var.ensures.number
    (least_node (slots_of c.words.result.now) h (words_read q c.words.result.now c.words.ensures.words ∙ ap (λ (x : Held). slots x.plain) c.self.view_is) c.number_at-var.result c.args.from c.next.result e.found e.least e.none)
