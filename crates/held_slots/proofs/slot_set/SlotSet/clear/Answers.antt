use Rattle.std.proofs.Common.{inl, inr, ap, ◌∙◌, arith}
use Rattle.std.proofs.lemmas.Bool.{cases_eq, cases_lt}
use Rattle.held_slots.specs.SlotSets.{has}
use Rattle.held_slots.proofs.slot_set.SlotSet.clear.Goals as goal

pub overflow_add-from : goal.overflow_add-from
overflow_add-from c =
    let lt = c.next.ensures.below c.in-Some.slot c.in-Some.ensures.next.1 in
    let few = c.next.ensures.few in
    omega (arith, lt, few)

pub loop-slot-smaller : goal.loop-slot-smaller
loop-slot-smaller c =
    let lt = c.next.ensures.below c.in-Some.slot c.in-Some.ensures.next.1 in
    let le = c.in-Some.ensures.next.0 in
    let same = c.remove.ensures.limit in
    omega (arith, lt, le, same)

pub loop-slot-preserved : goal.loop-slot-preserved
loop-slot-preserved c = record {
  limit = c.remove.ensures.limit ∙ c.loop-slot.invariant.limit;
  behind = λ s lt. elim (cases_eq s c.in-Some.slot) [
    | inl e ↦ ap (has c.remove.new.self) e ∙ c.remove.ensures.here
    | inr ne ↦ c.remove.ensures.others s ne ∙ (elim (cases_lt s c.loop-slot.from) [
      | inl before ↦ c.loop-slot.invariant.behind s before
      | inr ge ↦ c.in-Some.ensures.next.2 s ge (omega (arith, lt, ne))
    ])
  ];
}
