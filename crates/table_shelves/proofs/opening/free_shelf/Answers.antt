use Rattle.table_shelves.proofs.Rooms.{first_room}
use Rattle.table_shelves.proofs.opening.free_shelf.Goals as goal

pub new-requires-3 : goal.new-requires-3
new-requires-3 c = let r = c.in_ok-room.ensures in first_room c.in_ok-list.list.room c.args.key.now.slots c.in_ok-room.room c.in_ok-list.ensures.room r.words r.marks r.pins
