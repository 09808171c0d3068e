use Rattle.std.proofs.Common.{◌≡◌, ◌<◌, ◌+◌, length, set, inl, inr, Some, ap, sym, ◌∙◌, subst, arith}
use Rattle.std.proofs.lemmas.Grind.{common_steps}
use Rattle.std.proofs.lemmas.Bool.{cases_eq}
use Rattle.std.proofs.lemmas.List.{length-set, get_or-set_same, get_or-set_other}
use Rattle.edge_bits.specs.Words.{unpack_of}
use Rattle.edge_bits.specs.Reading.{slots_of}
use Rattle.node_slots.specs.Stores.{permanent_word}
use Rattle.node_slots.specs.Taking.{ArePacked, AreCounted}
use Rattle.node_slots.proofs.Taking.{counted_put, packed_put, word_some}
use Rattle.node_slots.proofs.node_table.append_permanent.Goals as goal

pub append-requires-clause-bits : goal.append-requires-clause-bits
append-requires-clause-bits c = word_some c.pack.result c.permanent-word.result c.pack.ensures.reads_back

pub append-requires-clause-room : goal.append-requires-clause-room
append-requires-clause-room c = let i = c.loop-slot.invariant in let t = c.loop-slot-test.true in let r = c.requires.room in omega (arith, i.taken, i.count)

pub loop-slot-preserved : goal.loop-slot-preserved
loop-slot-preserved c =
    let i = c.loop-slot.invariant in
    let words = c.loop-slot.table.words in
    let slot = c.loop-slot.slot in
    let bits = c.pack.result in
    let new : c.append.new.self.words ≡ set words slot bits = c.append.ensures.words ∙ ap (λ k. set words k bits) i.taken in
    let within : slot < length words = (let t = c.loop-slot-test.true in let r = c.requires.room in omega (arith, i.count)) in
    record {
      taken = c.append.ensures.taken ∙ ap (λ k. k + 1) i.taken;
      count = ap length new ∙ length-set words slot bits ∙ i.count;
      permanent = rw new (λ s lt. elim (cases_eq s slot) [
        | inl is ↦ ap (slots_of (set words slot bits)) is ∙ ap unpack_of (get_or-set_same words slot bits 0 within) ∙ c.pack.ensures.reads_back ∙ ap Some (c.permanent-word.ensures.word ∙ ap permanent_word (sym is))
        | inr ne ↦ ap unpack_of (get_or-set_other words slot s bits 0 ne) ∙ i.permanent s (omega (arith, lt, ne))
      ]);
      free = rw new (λ s above. get_or-set_other words slot s bits 0 (λ is. omega (arith, above, is)) ∙ i.free s (omega (arith, above)));
      packed = subst ArePacked (sym new) (packed_put words slot bits c.permanent-word.result within c.pack.ensures.layout c.pack.ensures.reads_back i.packed);
      nodes = subst (λ ws. AreCounted ws c.add.new.self) (sym new) (counted_put words c.loop-slot.nodes c.add.new.self slot bits c.permanent-word.result within (i.free slot (omega arith)) c.pack.ensures.reads_back i.nodes c.add.ensures.all c.add.ensures.each);
    }

pub add-requires-clause-few : goal.add-requires-clause-few
add-requires-clause-few c = grind (arith, common_steps)

pub returns-clause-packed : goal.returns-clause-packed
returns-clause-packed c = grind (arith, common_steps)
