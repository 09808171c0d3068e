use Rattle.std.proofs.Common.{◌<◌, length, arith}
use Rattle.std.specs.Slots.{slots_counts, slots_filled, slots_len}
use Rattle.step_times.proofs.Lists.{emptied_more}
use Rattle.step_times.proofs.words.close.Goals as goal

pub loop-slot-preserved : goal.loop-slot-preserved
loop-slot-preserved c =
    let l = c.loop-slot in
    let within : l.slot < length (slots_filled l.closed.slots) = let lt = c.loop-slot-test.true in let e = c.slot_count.ensures in let n = (slots_counts l.closed.slots).1 in omega (arith, lt, e, n) in
    emptied_more (slots_filled l.closed.slots) (slots_filled c.take.new.self.slots) l.slot (slots_len l.closed.slots) (slots_len c.take.new.self.slots) c.take.ensures.others.1 c.take.ensures.others.2 within l.invariant.0 l.invariant.1
