use Rattle.std.proofs.Common.{◌/◌, ◌<◌, subst, sym, arith}
use Rattle.held_slots.specs.SlotSets.{Members}
use Rattle.held_slots.proofs.Layers.{below_set, summary_set}
use Rattle.held_slots.proofs.slot_set.SlotSet.insert.Goals as goal

pub invariant_of-self : goal.invariant_of-self
invariant_of-self c =
    let was = c.self.invariant in
    let slots = c.set.ensures in
    let words = c.set-2.ensures in
    let blocks = c.set-3.ensures in
    record {
      words_sum_up = summary_set c.self.inside.slots.items c.set.new.bits.items c.self.inside.words.items c.set-2.new.bits.items c.args.slot was.words_sum_up slots.some slots.rest words.here words.others;
      blocks_sum_up = summary_set c.self.inside.words.items c.set-2.new.bits.items c.self.inside.blocks.items c.set-3.new.bits.items (c.args.slot / 64) was.blocks_sum_up words.some words.rest blocks.here blocks.others;
      room = omega (arith, slots.length, was.room);
      room_above = omega (arith, slots.length, words.length, was.room_above);
      room_on_top = omega (arith, words.length, blocks.length, was.room_on_top);
      below = below_set c.self.inside.limit c.self.inside.slots.items c.set.new.bits.items c.args.slot was.below (subst (λ (m : Members). c.args.slot < m.limit) (sym c.self.view_is) c.requires) slots.others;
      few = omega (arith, slots.length, was.few);
      few_above = omega (arith, words.length, was.few_above);
      few_on_top = omega (arith, blocks.length, was.few_on_top);
    }
