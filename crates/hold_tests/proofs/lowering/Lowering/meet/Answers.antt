use Rattle.std.proofs.Common.{◌-◌, ap}
use Rattle.held_table.specs.Tables.{known_of}
use Rattle.hold_tests.proofs.Lowered.{uncounted, zero_stays}
use Rattle.hold_tests.proofs.lowering.Lowering.meet.Goals as goal

pub returns-then-slot-self-clause-met : goal.returns-then-slot-self-clause-met
returns-then-slot-self-clause-met c =
    let k = known_of c.args.self.now.table in (k.content.count c.args.slot, uncounted k c.args.slot)

pub returns-then-loads-self-clause-stays : goal.returns-then-loads-self-clause-stays
returns-then-loads-self-clause-stays c none =
    let k = known_of c.args.self.now.table in
    zero_stays k (known_of c.lower.new.self) c.args.slot (k.content.count c.args.slot - 1) c.lower.ensures.lowered (ap (λ n. n - 1) none)

pub returns-else-loads-self-clause-met : goal.returns-else-loads-self-clause-met
returns-else-loads-self-clause-met c =
    let k = known_of c.args.self.now.table in (k.content.count c.args.slot, uncounted k c.args.slot)
