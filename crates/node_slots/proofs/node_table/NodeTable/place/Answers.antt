use Rattle.std.proofs.Common.{◌+◌, length, ap, sym, ◌∙◌, subst, arith, rules}
use Rattle.std.proofs.lemmas.Grind.{common_steps}
use Rattle.std.specs.List.{count_by}
use Rattle.node_slots.specs.Stores.{is_word}
use Rattle.std.proofs.lemmas.List.{length-set}
use Rattle.node_slots.specs.Taking.{ArePacked, AreCounted}
use Rattle.held_slots.specs.Arcs.{IsOf}
use Rattle.node_slots.proofs.Taking.{arc_change, count_put, counted_put, packed_put}
use Rattle.node_slots.proofs.node_table.NodeTable.place.Goals as goal

pub invariant_of-self-2 : goal.invariant_of-self-2
invariant_of-self-2 c =
    let old = c.self.invariant in
    let words = c.self.inside.table.words in
    let bits = c.args.bits in
    let e = c.in_ok-slot.ensures in
    let slot = c.in_ok-slot.slot in
    let put = e.put in
    let long = ap length put.2 ∙ length-set words slot bits in
    record {
      packed = subst ArePacked (sym put.2) (packed_put words slot bits c.args.word put.0 c.requires.layout c.requires.reads_back old.packed);
      free = e.free;
      few = omega (arith, long, old.few);
      room = omega (arith, long, old.room, e.room);
      counted = ap (λ n. n + 1) old.counted ∙ sym (ap (count_by is_word) put.2 ∙ count_put words slot bits c.args.word put.0 put.1 c.requires.reads_back);
      as_many = omega (arith, old.as_many, e.count);
      nodes = subst (λ ws. AreCounted ws c.add.new.self) (sym put.2) (counted_put words c.self.inside.nodes c.add.new.self slot bits c.args.word put.0 put.1 c.requires.reads_back old.nodes c.add.ensures.all c.add.ensures.each);
      arcs_fit = c.change.ensures.slots ∙ old.arcs_fit ∙ sym long;
      arcs_are = subst (IsOf c.change.new.self) (sym put.2) (c.change.ensures.of words slot (arc_change c.self.inside.arcs words slot 0 put.0 put.1 old.few old.arcs_are));
    }

pub add-requires-clause-few : goal.add-requires-clause-few
add-requires-clause-few c = grind (arith, common_steps)

pub returns-in_err-slot-clause-full : goal.returns-in_err-slot-clause-full
returns-in_err-slot-clause-full c = search (rules, c.requires)

pub returns-clause-placed : goal.returns-clause-placed
returns-clause-placed c = search (rules, c.requires)

pub change-requires : goal.change-requires
change-requires c =
    let old = c.self.invariant in
    let put = c.in_ok-slot.ensures.put in
    (c.self.inside.table.words, c.in_ok-slot.slot, arc_change c.self.inside.arcs c.self.inside.table.words c.in_ok-slot.slot 0 put.0 put.1 old.few old.arcs_are)
