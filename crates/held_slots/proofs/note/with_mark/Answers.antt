use Rattle.std.proofs.Common.{rules}
use Rattle.held_slots.proofs.note.with_mark.Goals as goal

pub returns-then-on-clause-pin : goal.returns-then-on-clause-pin
returns-then-on-clause-pin c = search (rules, c.requires)

pub returns-else-on-clause-pin : goal.returns-else-on-clause-pin
returns-else-on-clause-pin c = search (rules, c.requires)
