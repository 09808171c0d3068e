use Rattle.std.proofs.Common.{◌+◌, ◌<◌, length, sym, ◌∙◌, subst, arith}
use Rattle.function_laws.specs.Sizes.{Orders, in_order}
use Rattle.hold_tests.proofs.Rooms.{still_room, still_room_back}
use Rattle.hold_tests.proofs.holds.swap_swept.Goals as goal

pub swap_of-requires-clause-room : goal.swap_of-requires-clause-room
swap_of-requires-clause-room g c =
    still_room g.W.Whole.others (g.W.Whole.view c.levels_of.new.self) (g.W.Whole.view c.need_of-need.new.w) (g.W.Whole.view c.room.new.self) c.args.order 1 c.need_of-need.result c.room.result
    c.need_of-need.ensures.after c.room.ensures.after c.need_of-need.ensures.need c.room.ensures.room (omega (arith, c.if-room-need.false))

pub swap_back_of-requires-clause-room : goal.swap_back_of-requires-clause-room
swap_back_of-requires-clause-room g c =
    let same = c.room.ensures.after.orders ∙ c.need_of-need.ensures.after.orders in
    let levels = c.levels_of.ensures.levels in
    let some = c.if-levels_of-lt3.false in
    still_room_back g.W.Whole.others (g.W.Whole.view c.levels_of.new.self) (g.W.Whole.view c.need_of-need.new.w) (g.W.Whole.view c.room.new.self) c.args.order 1 c.need_of-need.result c.room.result
    c.need_of-need.ensures.after c.room.ensures.after c.need_of-need.ensures.need c.room.ensures.room (omega (arith, c.if-room-need.false)) (subst (λ (o : Orders). 1 + 1 < length (in_order o c.args.order)) (sym same) (omega (arith, levels, some)))
