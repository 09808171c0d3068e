use Rattle.std.proofs.Common.{refl, sym, ◌∙◌, ap, subst, arith}
use Rattle.std.proofs.lemmas.Grind.{common_steps}
use Rattle.level_table.specs.Tables.{Table, IsAbsent, slot_at}
use Rattle.level_table.specs.declared.table.Entry.{Entry}
use Rattle.level_table.proofs.Entries.{slot-push_here, slot-push_other}
use Rattle.level_table.proofs.table.LevelTable.insert.Goals as goal

pub returns-clause-here : goal.returns-clause-here
returns-clause-here c =
    let e : Entry = record { hi = c.args.hi; lo = c.args.lo; slot = c.args.slot } in
    rw c.push_reserved.ensures.items
    (slot-push_here c.self.inside.entries.items e c.args.hi c.args.lo
    (subst (λ (t : Table). IsAbsent t.entries c.args.hi c.args.lo) (sym c.self.view_is) c.requires.absent) (refl, refl))

pub returns-clause-others : goal.returns-clause-others
returns-clause-others c = λ h l other.
    let e : Entry = record { hi = c.args.hi; lo = c.args.lo; slot = c.args.slot } in
    rw c.push_reserved.ensures.items
    (slot-push_other c.self.inside.entries.items e h l (λ is. other (sym is.0) (sym is.1)) ∙ ap (λ (t : Table). slot_at t.entries h l) c.self.view_is)

pub invariant_of-self : goal.invariant_of-self
invariant_of-self c = grind (arith, common_steps)
