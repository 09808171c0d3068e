use Rattle.std.proofs.Common.{◌≡◌, ◌<◌, length, get_or, Some, ap, sym, ◌∙◌, subst, arith}
use Rattle.std.proofs.lemmas.Grind.{common_steps}
use Rattle.std.specs.List.{count_by}
use Rattle.std.proofs.lemmas.List.{length-set, get_or-set_same}
use Rattle.edge_bits.specs.Words.{unpack_of}
use Rattle.edge_bits.specs.Reading.{slots_of}
use Rattle.node_slots.specs.Stores.{is_word}
use Rattle.node_slots.specs.Taking.{ArePacked, AreCounted}
use Rattle.node_slots.proofs.Replacing.{count_replaced, counted_replaced, free_replaced, packed_replaced}
use Rattle.held_slots.specs.Arcs.{IsOf}
use Rattle.node_slots.proofs.Taking.{arc_change, taken_word, word_some}
use Rattle.node_slots.proofs.node_table.NodeTable.rewrite.Goals as goal

pub invariant_of-self : goal.invariant_of-self
invariant_of-self c =
    let old = c.self.invariant in
    let words = c.self.inside.table.words in
    let slot = c.args.slot in
    let was = c.in-Some.old in
    let word = c.args.word in
    let bits = c.pack-bits.result in
    let back = c.pack-bits.ensures.reads_back in
    let reads : slots_of words slot ≡ Some was = sym (ap unpack_of c.word-was.ensures) ∙ sym c.unpack.ensures.value ∙ c.in-Some.is in
    let below = taken_word words c.self.inside.table.taken c.self.inside.freed.items slot was old.free reads in
    let within : slot < length words = (let w = old.free.within in omega arith) in
    let o = c.overwrite.ensures in
    let long = ap length o.words ∙ length-set words slot bits in
    let used = word_some (get_or words slot 0) was reads in
    record {
      packed = subst ArePacked (sym o.words) (packed_replaced words slot bits was word within reads back c.pack-bits.ensures.layout old.packed);
      free = rw (o.words, o.taken) (free_replaced words slot bits was word within reads back c.self.inside.table.taken c.self.inside.freed.items below (word_some bits word back) (omega arith) old.free);
      few = omega (arith, long, old.few);
      room = omega (arith, long, old.room);
      counted = old.counted ∙ sym (ap (count_by is_word) o.words ∙ count_replaced words slot bits was word within reads back);
      as_many = omega (arith, old.as_many, o.taken);
      nodes = subst (λ ws. AreCounted ws c.add.new.self) (sym o.words) (counted_replaced words slot bits was word within reads back c.self.inside.nodes c.remove.new.self c.add.new.self old.nodes c.remove.ensures.all c.remove.ensures.each c.add.ensures.all c.add.ensures.each);
      arcs_fit = c.change.ensures.slots ∙ old.arcs_fit ∙ sym long;
      arcs_are = subst (IsOf c.change.new.self) (sym o.words) (c.change.ensures.of words slot (arc_change c.self.inside.arcs words slot c.word-was.result within (sym c.word-was.ensures) old.few old.arcs_are));
    }

pub returns-clause-rewritten : goal.returns-clause-rewritten
returns-clause-rewritten c = let words = c.overwrite.ensures.words in let layout = c.pack-bits.ensures.layout in let view = c.self.view_is in cc

pub returns-clause-reads : goal.returns-clause-reads
returns-clause-reads c =
    let words = c.self.inside.table.words in
    let slot = c.args.slot in
    let old = c.self.invariant in
    let reads : slots_of words slot ≡ Some c.in-Some.old = sym (ap unpack_of c.word-was.ensures) ∙ sym c.unpack.ensures.value ∙ c.in-Some.is in
    let below = taken_word words c.self.inside.table.taken c.self.inside.freed.items slot c.in-Some.old old.free reads in
    let within : slot < length words = (let w = old.free.within in omega arith) in
    ap (λ ws. slots_of ws slot) c.overwrite.ensures.words ∙ ap unpack_of (get_or-set_same words slot c.pack-bits.result 0 within) ∙ c.pack-bits.ensures.reads_back

pub add-requires-clause-few : goal.add-requires-clause-few
add-requires-clause-few c = grind (arith, common_steps)

pub remove-requires-clause-some : goal.remove-requires-clause-some
remove-requires-clause-some c = grind (arith, common_steps)

pub change-requires : goal.change-requires
change-requires c =
    let old = c.self.invariant in
    let words = c.self.inside.table.words in
    let slot = c.args.slot in
    let reads : slots_of words slot ≡ Some c.in-Some.old = sym (ap unpack_of c.word-was.ensures) ∙ sym c.unpack.ensures.value ∙ c.in-Some.is in
    let below = taken_word words c.self.inside.table.taken c.self.inside.freed.items slot c.in-Some.old old.free reads in
    (words, slot, arc_change c.self.inside.arcs words slot c.word-was.result (let w = old.free.within in omega arith) (sym c.word-was.ensures) old.few old.arcs_are)
