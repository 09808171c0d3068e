use Rattle.std.proofs.Common.{arith}
use Rattle.store_upkeep.proofs.Rooms.{is_none, is_room, is_swapped, unchanged}
use Rattle.store_upkeep.proofs.reordering.sweep_and_swap.Goals as goal

pub swap_of-requires-clause-room : goal.swap_of-requires-clause-room
swap_of-requires-clause-room g c =
    (is_room g.W.Whole.others g.met.W.Whole.others_both (g.W.Whole.view c.sweep-in_use.new.w) (g.W.Whole.view c.need_of-need.new.w) (g.W.Whole.view c.room.new.self) c.need_of-need.ensures.after c.room.ensures.after
    c.args.order c.args.level c.need_of-need.result c.room.result c.need_of-need.ensures.need c.room.ensures.room (omega (arith, c.if-room-need.false))).1

-- no room
pub returns-then-room-need : goal.returns-then-room-need
returns-then-room-need g c =
    let v0 = g.W.Whole.view c.sweep-in_use.new.w in
    let v1 = g.W.Whole.view c.need_of-need.new.w in
    let v2 = g.W.Whole.view c.room.new.self in
    record {
      swept = c.sweep-in_use.result;
      between = v0;
      is_swept = c.sweep-in_use.ensures;
      reordered = (
        unchanged g.W.Whole.others g.met.W.Whole.others_both v0 v1 v2 c.need_of-need.ensures.after c.room.ensures.after c.args.order c.args.level c.need_of-need.result c.room.result c.need_of-need.ensures.need c.room.ensures.room,
        record {
          in_use = c.sweep-in_use.ensures.in_use;
          need = c.need_of-need.ensures.need;
          full = is_none g.W.Whole.others g.met.W.Whole.others_both v0 v1 v2 c.need_of-need.ensures.after c.room.ensures.after c.args.order c.args.level c.need_of-need.result c.room.result c.need_of-need.ensures.need c.room.ensures.room
              (omega (arith, c.if-room-need.true)) c.sweep-in_use.result.in_use c.sweep-in_use.ensures.in_use;
        },
      );
    }

pub returns : goal.returns
returns g c =
    let v0 = g.W.Whole.view c.sweep-in_use.new.w in
    let v1 = g.W.Whole.view c.need_of-need.new.w in
    let v2 = g.W.Whole.view c.room.new.self in
    record {
      swept = c.sweep-in_use.result;
      between = v0;
      is_swept = c.sweep-in_use.ensures;
      reordered = (
        (is_room g.W.Whole.others g.met.W.Whole.others_both v0 v1 v2 c.need_of-need.ensures.after c.room.ensures.after c.args.order c.args.level c.need_of-need.result c.room.result c.need_of-need.ensures.need c.room.ensures.room (omega (arith, c.if-room-need.false))).0,
        is_swapped g.W.Whole.others g.met.W.Whole.others_both v0 v1 v2 c.need_of-need.ensures.after c.room.ensures.after c.args.order c.args.level c.need_of-need.result c.room.result c.need_of-need.ensures.need c.room.ensures.room (g.W.Whole.view c.swap_of.new.w) c.swap_of.ensures,
      );
    }
