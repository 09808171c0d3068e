use Rattle.std.proofs.Common.{Some, sym, ◌∙◌, ap}
use Rattle.level_table.specs.declared.table.Entry.{Entry}
use Rattle.level_table.proofs.Entries.{slot_found, slot_absent}
use Rattle.level_table.proofs.table.LevelTable.find.Goals as goal

pub returns-in_err-place-clause-slot : goal.returns-in_err-place-clause-slot
returns-in_err-place-clause-slot c = c.from_residual.ensures ∙ sym (slot_absent c.args.self.now.entries c.args.hi c.args.lo c.in_err-place.ensures)

pub returns-clause-slot : goal.returns-clause-slot
returns-clause-slot c =
    let entries = c.self.inside.entries.items in
    let place = c.in_ok-place.place in
    let entry = c.index.result.now in
    let there = rw (← c.self.view_is) at c.in_ok-place.ensures in
    rw (← c.self.view_is) (ap (λ (e : Entry). Some e.slot) c.index.ensures ∙ sym (slot_found entries c.args.hi c.args.lo place entry c.self.invariant.apart there.0 (there.1 entry)))
