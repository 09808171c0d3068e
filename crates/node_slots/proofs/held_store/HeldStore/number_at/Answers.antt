use Rattle.std.proofs.Common.{arith}
use Rattle.std.proofs.lemmas.Grind.{common_steps, elements, moves}
use Rattle.node_slots.proofs.held_store.HeldStore.number_at.Goals as goal

pub overflow_add-result : goal.overflow_add-result
overflow_add-result c = grind (arith, moves)

pub returns-in-Elements-clause-few : goal.returns-in-Elements-clause-few
returns-in-Elements-clause-few c = grind (arith, elements)

pub returns-in-Elements-clause-number : goal.returns-in-Elements-clause-number
returns-in-Elements-clause-number c = grind (arith, common_steps)

pub returns-in-Variables-clause-few : goal.returns-in-Variables-clause-few
returns-in-Variables-clause-few c = grind (arith, elements)

pub returns-in-Variables-clause-number : goal.returns-in-Variables-clause-number
returns-in-Variables-clause-number c = grind (arith, common_steps)
