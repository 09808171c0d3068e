use Rattle.std.proofs.Common.{inl, inr, ◌∙◌, arith}
use Rattle.std.proofs.lemmas.Bool.{cases_lt}
use Rattle.held_slots.proofs.ArcLaws.{all_counted, so_far_few}
use Rattle.held_slots.proofs.arcs.add_words.Goals as goal

pub add_word-requires-clause-few : goal.add_word-requires-clause-few
add_word-requires-clause-few c = λ s.
    let was = c.loop-slot.invariant in
    elim (cases_lt s c.args.slots) [
      | inl lt ↦ (let is = was.counted s lt in let few = so_far_few c.args.words.now c.loop-slot.slot s in let short = c.requires.few in omega (arith, is, few, short))
      | inr ge ↦ (let none = was.beyond s ge in omega (arith, none))
    ]

pub returns-clause-counted : goal.returns-clause-counted
returns-clause-counted c = λ s lt. c.loop-slot.invariant.counted s lt ∙ all_counted c.args.words.now c.loop-slot.slot s c.loop-slot-test.false
