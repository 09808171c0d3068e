use Rattle.std.proofs.Common.{arith}
use Rattle.function_laws.specs.declared.orders.Order.TheVariants.{Variables}
use Rattle.hold_times.proofs.Rooms.{still_room}
use Rattle.hold_times.proofs.work.swap.Goals as goal

pub swap_of-requires-clause-room : goal.swap_of-requires-clause-room
swap_of-requires-clause-room g c =
    still_room g.W.Whole.others (g.W.Whole.view c.levels_of-levels.new.self) (g.W.Whole.view c.need_of-need.new.w) (g.W.Whole.view c.room.new.self) Variables c.args.level c.need_of-need.result c.room.result
    c.need_of-need.ensures.after c.room.ensures.after c.need_of-need.ensures.need c.room.ensures.room (omega (arith, c.if-room-need.false))
