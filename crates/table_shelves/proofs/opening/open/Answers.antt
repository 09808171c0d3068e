use Rattle.words_rule.specs.Openings.{shape_of}
use Rattle.table_shelves.proofs.Rooms.{first_free}
use Rattle.table_shelves.proofs.opening.open.Goals as goal

pub open-requires-clause-free : goal.open-requires-clause-free
open-requires-clause-free c = first_free (shape_of c.args.key.now) c.in_ok-free_shelf.field-0.list.slots c.requires.room c.in_ok-free_shelf.ensures.slots
