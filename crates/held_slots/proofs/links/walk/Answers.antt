use Rattle.std.proofs.Common.{inl, inr, subst, arith}
use Rattle.std.proofs.lemmas.Bool.{cases_eq, cases_lt}
use Rattle.edge_bits.specs.Reading.{slots_of}
use Rattle.held_slots.specs.Linked.{HasNode}
use Rattle.held_slots.proofs.Leading.{none_past}
use Rattle.held_slots.proofs.links.walk.Goals as goal

pub loop-slot-preserved : goal.loop-slot-preserved
loop-slot-preserved c = λ t le lt h. elim (cases_eq t c.loop-slot.slot) [
  | inl e ↦ c.has_node.ensures.no c.if-has_node.false (subst (HasNode (slots_of c.args.words.now) c.args.var) e h)
  | inr ne ↦ c.loop-slot.invariant t le (omega (arith, lt, ne)) h
]

pub returns-clause-none : goal.returns-clause-none
returns-clause-none c = λ t le h. elim (cases_lt t c.loop-slot.slot) [
  | inl lt ↦ c.loop-slot.invariant t le lt h
  | inr ge ↦ none_past c.args.words.now c.args.var t (let past = c.loop-slot-test.false in omega (arith, past, ge)) h
]
