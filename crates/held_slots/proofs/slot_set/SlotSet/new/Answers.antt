use Rattle.std.proofs.Common.{◌≡◌, ℕ, false, true, sym, ◌/◌, ◌+◌, ◌∙◌, ap, length, arith}
use Rattle.std.proofs.lemmas.List.{length-replicate}
use Rattle.held_slots.proofs.Layers.{no_bits, none_summed}
use Rattle.held_slots.proofs.slot_set.SlotSet.new.Goals as goal

pub invariant_of-result : goal.invariant_of-result
invariant_of-result c =
    let none : ℕ = 0 in
    let slots = c.in_ok-vec.ensures.items_if_clones_equal (λ y e. e) in
    let words = c.in_ok-vec-2.ensures.items_if_clones_equal (λ y e. e) in
    let blocks = c.in_ok-vec-3.ensures.items_if_clones_equal (λ y e. e) in
    let n = c.args.limit / 64 + 1 in
    let long = ap length slots ∙ length-replicate n none in
    let long_above = ap length words ∙ length-replicate (n / 64 + 1) none in
    let long_on_top = ap length blocks ∙ length-replicate ((n / 64 + 1) / 64 + 1) none in
    let few = c.requires in
    record {
      words_sum_up = none_summed c.in_ok-vec.field-0.items c.in_ok-vec-2.field-0.items n (n / 64 + 1) slots words;
      blocks_sum_up = none_summed c.in_ok-vec-2.field-0.items c.in_ok-vec-3.field-0.items (n / 64 + 1) ((n / 64 + 1) / 64 + 1) words blocks;
      room = omega (arith, long);
      room_above = omega (arith, long, long_above);
      room_on_top = omega (arith, long_above, long_on_top);
      below = λ s inside. (let e : false ≡ true = sym (no_bits c.in_ok-vec.field-0.items n s slots) ∙ inside in cc);
      few = omega (arith, long, few);
      few_above = omega (arith, long_above, few);
      few_on_top = omega (arith, long_on_top, few);
    }
