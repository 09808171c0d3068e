use Rattle.std.proofs.Common.{false, ap, sym, ◌∙◌, subst, arith}
use Rattle.std.proofs.lemmas.Grind.{common_steps}
use Rattle.std.specs.Prelude.{◌+◌, ◌%◌, ◌^◌}
use Rattle.edge_bits.specs.Reading.{slots_of}
use Rattle.held_slots.specs.Linked.{variable_of}
use Rattle.handle_count.specs.CountWords.{count_of, generation_of}
use Rattle.node_store.specs.Changes.{CanFree, without}
use Rattle.node_slots.specs.Held.{Held, held_view}
use Rattle.node_slots.specs.Stores.{slots}
use Rattle.node_slots.specs.contracts.held_store.HeldStore.{the_view}
use Rattle.node_slots.proofs.HeldFreeing.{freed, other_slot, slot_gone}
use Rattle.node_slots.proofs.HeldMarks.{with_notes}
use Rattle.node_slots.proofs.HeldRewriting.{Becomes}
use Rattle.node_slots.proofs.HeldWalking.{noted}
use Rattle.node_slots.proofs.held_store.HeldStoreWhole.free.Goals as goal

abbrev words_freed : goal.After-write → Held
words_freed c = (let q = the_view c.self.inside in record { plain = record q.plain { words = c.free.new.self; counts = c.write.new.self }; half = q.half; chain = record q.chain { linked = false } })

done : (c : goal.After-write) → Becomes (without (held_view c.args.self.now) c.args.slot) (with_notes (words_freed c) c.freed.new.self)
done c =
    let q = the_view c.self.inside in
    let can = subst (λ h. CanFree (held_view h) c.args.slot) (sym c.self.view_is) c.requires in
    let count = c.next_generation.ensures.count ∙ ap count_of c.word-word.ensures in
    let generation = c.next_generation.ensures.generation ∙ ap (λ x. (generation_of x + 1) % 2 ^ 32) c.word-word.ensures in
    noted (without (held_view c.args.self.now) c.args.slot) (words_freed c)
    (subst (λ h. Becomes (without (held_view h) c.args.slot) (words_freed c)) c.self.view_is
    (freed q c.self.invariant c.args.slot can c.free.new.self c.write.new.self c.next_generation.result c.free.ensures c.write.ensures count generation)) c.freed.new.self
    c.freed.ensures.marks c.freed.ensures.pins
    (c.freed.ensures.linked (slots q.plain) (slots_of c.free.new.self) c.self.invariant.linked
    (other_slot q c.self.invariant c.args.slot can c.free.new.self c.write.new.self c.next_generation.result c.free.ensures c.write.ensures count generation) (ap (λ (h : Held). variable_of (slots h.plain c.args.slot)) c.self.view_is ∙ sym c.variable_in-was.ensures)
    (slot_gone q c.self.invariant c.args.slot can c.free.new.self c.write.new.self c.next_generation.result c.free.ensures c.write.ensures count generation))

pub invariant_of-self : goal.invariant_of-self
invariant_of-self c = (done c).held

pub returns : goal.returns
returns c = (done c).after

pub write-requires : goal.write-requires
write-requires c = grind (arith, common_steps)
