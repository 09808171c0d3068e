use Rattle.std.proofs.Common.{◌≡◌, ◌<◌, length, get_or, Some, ap, sym, ◌∙◌, subst, arith}
use Rattle.std.proofs.lemmas.Grind.{common_steps}
use Rattle.std.specs.List.{count_by}
use Rattle.std.proofs.lemmas.List.{length-set, length_push}
use Rattle.edge_bits.specs.Words.{unpack_of}
use Rattle.edge_bits.specs.Reading.{slots_of}
use Rattle.node_slots.specs.Stores.{is_word}
use Rattle.node_slots.specs.Taking.{ArePacked, AreCounted}
use Rattle.held_slots.specs.Arcs.{IsOf}
use Rattle.node_slots.proofs.Taking.{arc_change, count_erased, counted_erased, free_erased, packed_erased, taken_word, word_some}
use Rattle.node_slots.proofs.node_table.NodeTable.free.Goals as goal

pub invariant_of-self : goal.invariant_of-self
invariant_of-self c =
    let old = c.self.invariant in
    let words = c.self.inside.table.words in
    let slot = c.args.slot in
    let word = c.in-Some.word in
    let reads : slots_of words slot ≡ Some word = sym (ap unpack_of c.word-was.ensures) ∙ sym c.unpack.ensures.value ∙ c.in-Some.is in
    let below = taken_word words c.self.inside.table.taken c.self.inside.freed.items slot word old.free reads in
    let within : slot < length words = (let w = old.free.within in omega arith) in
    let e = c.erase.ensures in
    let p = c.push_reserved.ensures in
    let r = c.remove.ensures in
    let long = ap length e.words ∙ length-set words slot 0 in
    record {
      packed = subst ArePacked (sym e.words) (packed_erased words slot within old.packed);
      free = rw (e.words, e.taken, p.items) (free_erased words c.self.inside.table.taken c.self.inside.freed.items slot below
          (λ zero. (let some = word_some (get_or words slot 0) word reads in omega arith)) old.free);
      few = omega (arith, long, old.few);
      room = omega (arith, long, old.room, p.capacity);
      counted = (let less = count_erased words slot word within reads in omega (arith, ap (count_by is_word) e.words, less, old.counted));
      as_many = (let less = count_erased words slot word within reads in omega (arith, ap length p.items, length_push c.self.inside.freed.items slot, e.taken, less, old.counted, old.as_many));
      nodes = subst (λ ws. AreCounted ws c.remove.new.self) (sym e.words) (counted_erased words c.self.inside.nodes c.remove.new.self slot word within reads old.nodes r.all r.each);
      arcs_fit = c.change.ensures.slots ∙ old.arcs_fit ∙ sym long;
      arcs_are = subst (IsOf c.change.new.self) (sym e.words) (c.change.ensures.of words slot (arc_change c.self.inside.arcs words slot c.word-was.result within (sym c.word-was.ensures) old.few old.arcs_are));
    }

pub push_reserved-requires : goal.push_reserved-requires
push_reserved-requires c = grind (arith, common_steps)

pub remove-requires-clause-some : goal.remove-requires-clause-some
remove-requires-clause-some c = grind (arith, common_steps)

pub change-requires : goal.change-requires
change-requires c =
    let old = c.self.invariant in
    let words = c.self.inside.table.words in
    let slot = c.args.slot in
    let reads : slots_of words slot ≡ Some c.in-Some.word = sym (ap unpack_of c.word-was.ensures) ∙ sym c.unpack.ensures.value ∙ c.in-Some.is in
    let below = taken_word words c.self.inside.table.taken c.self.inside.freed.items slot c.in-Some.word old.free reads in
    (words, slot, arc_change c.self.inside.arcs words slot c.word-was.result (let w = old.free.within in omega arith) (sym c.word-was.ensures) old.few old.arcs_are)
