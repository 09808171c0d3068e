use Rattle.std.proofs.Common.{arith}
use Rattle.std.proofs.lemmas.Grind.{common_steps, moves}
use Rattle.held_slots.proofs.links.link_slot.Goals as goal

pub with_link-requires : goal.with_link-requires
with_link-requires c = grind (arith, moves)

pub returns-in-Some-clause-pin : goal.returns-in-Some-clause-pin
returns-in-Some-clause-pin c = grind (arith, common_steps)

pub returns-in-Some-clause-node : goal.returns-in-Some-clause-node
returns-in-Some-clause-node c = grind (arith, common_steps)

pub returns-in-Some-clause-mark : goal.returns-in-Some-clause-mark
returns-in-Some-clause-mark c = grind (arith, common_steps)
