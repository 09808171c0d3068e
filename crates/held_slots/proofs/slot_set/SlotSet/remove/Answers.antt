use Rattle.std.proofs.Common.{◌/◌, ◌<◌, subst, ◌∙◌, sym, arith}
use Rattle.held_slots.specs.SlotSets.{Members}
use Rattle.held_slots.proofs.Layers.{below_set, summary_kept, summary_unset}
use Rattle.held_slots.proofs.slot_set.SlotSet.remove.Goals as goal

pub invariant_of-self : goal.invariant_of-self
invariant_of-self c =
    let was = c.self.invariant in
    let slots = c.unset.ensures in
    let some = sym slots.some ∙ c.if-unset.true in
    record {
      words_sum_up = summary_kept c.self.inside.slots.items c.unset.new.bits.items c.self.inside.words.items c.args.slot was.words_sum_up (slots.had some ∙ sym some) slots.rest;
      blocks_sum_up = was.blocks_sum_up;
      room = omega (arith, slots.length, was.room);
      room_above = omega (arith, slots.length, was.room_above);
      room_on_top = was.room_on_top;
      below = below_set c.self.inside.limit c.self.inside.slots.items c.unset.new.bits.items c.args.slot was.below (subst (λ (m : Members). c.args.slot < m.limit) (sym c.self.view_is) c.requires) slots.others;
      few = omega (arith, slots.length, was.few);
      few_above = was.few_above;
      few_on_top = was.few_on_top;
    }

pub invariant_of-self-then-unset-2 : goal.invariant_of-self-then-unset-2
invariant_of-self-then-unset-2 c =
    let was = c.self.invariant in
    let slots = c.unset.ensures in
    let words = c.unset-2.ensures in
    let some = sym words.some ∙ c.if-unset-2.true in
    record {
      words_sum_up = summary_unset c.self.inside.slots.items c.unset.new.bits.items c.self.inside.words.items c.unset-2.new.bits.items c.args.slot was.words_sum_up (sym slots.some ∙ c.if-unset.false) slots.rest words.here words.others;
      blocks_sum_up = summary_kept c.self.inside.words.items c.unset-2.new.bits.items c.self.inside.blocks.items (c.args.slot / 64) was.blocks_sum_up (words.had some ∙ sym some) words.rest;
      room = omega (arith, slots.length, was.room);
      room_above = omega (arith, slots.length, words.length, was.room_above);
      room_on_top = omega (arith, words.length, was.room_on_top);
      below = below_set c.self.inside.limit c.self.inside.slots.items c.unset.new.bits.items c.args.slot was.below (subst (λ (m : Members). c.args.slot < m.limit) (sym c.self.view_is) c.requires) slots.others;
      few = omega (arith, slots.length, was.few);
      few_above = omega (arith, words.length, was.few_above);
      few_on_top = was.few_on_top;
    }

pub invariant_of-self-2 : goal.invariant_of-self-2
invariant_of-self-2 c =
    let was = c.self.invariant in
    let slots = c.unset.ensures in
    let words = c.unset-2.ensures in
    let blocks = c.unset-3.ensures in
    record {
      words_sum_up = summary_unset c.self.inside.slots.items c.unset.new.bits.items c.self.inside.words.items c.unset-2.new.bits.items c.args.slot was.words_sum_up (sym slots.some ∙ c.if-unset.false) slots.rest words.here words.others;
      blocks_sum_up = summary_unset c.self.inside.words.items c.unset-2.new.bits.items c.self.inside.blocks.items c.unset-3.new.bits.items (c.args.slot / 64) was.blocks_sum_up (sym words.some ∙ c.if-unset-2.false) words.rest blocks.here blocks.others;
      room = omega (arith, slots.length, was.room);
      room_above = omega (arith, slots.length, words.length, was.room_above);
      room_on_top = omega (arith, words.length, blocks.length, was.room_on_top);
      below = below_set c.self.inside.limit c.self.inside.slots.items c.unset.new.bits.items c.args.slot was.below (subst (λ (m : Members). c.args.slot < m.limit) (sym c.self.view_is) c.requires) slots.others;
      few = omega (arith, slots.length, was.few);
      few_above = omega (arith, words.length, was.few_above);
      few_on_top = omega (arith, blocks.length, was.few_on_top);
    }
