use Rattle.std.proofs.Common.{arith}
use Rattle.store_tests.proofs.Reorders.{still_room}
use Rattle.store_tests.proofs.swaps.swap_swept.Goals as goal

pub swap_of-requires-clause-room : goal.swap_of-requires-clause-room
swap_of-requires-clause-room g c =
    still_room g.W.Whole.others (g.W.Whole.view c.levels_of.new.self) (g.W.Whole.view c.need_of-need.new.w) (g.W.Whole.view c.room.new.self) c.args.order c.args.level c.need_of-need.result c.room.result
    c.need_of-need.ensures.after c.room.ensures.after c.need_of-need.ensures.need c.room.ensures.room (omega (arith, c.if-room-need.false))
