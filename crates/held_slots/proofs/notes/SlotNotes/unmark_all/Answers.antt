use Rattle.std.proofs.Common.{replicate, length, refl, ap, sym, ◌∙◌}
use Rattle.held_slots.specs.Notes.{Notes}
use Rattle.held_slots.proofs.Padding.{unmarked}
use Rattle.held_slots.proofs.notes.SlotNotes.unmark_all.Goals as goal

pub returns-then-self : goal.returns-then-self
returns-then-self c =
    let was = c.self.inside in
    let e = c.strip.ensures in
    unmarked was.notes.items c.strip.new.notes.items was.firsts.items was.slots was.linked was.stale was.cursor was.older was.newer c.self.invariant.within e.length e.marks e.pins e.links
    ∙ ap (λ (n : Notes). record n { marks = replicate (length n.marks) 0 }) c.self.view_is

pub returns-else-self : goal.returns-else-self
returns-else-self c =
    let was = c.self.inside in
    sym c.self.view_is
    ∙ unmarked was.notes.items was.notes.items was.firsts.items was.slots was.linked was.stale was.cursor was.older was.newer c.self.invariant.within refl (c.self.invariant.unmarked c.if-self.false) (λ s. refl) (λ s. refl)
    ∙ ap (λ (n : Notes). record n { marks = replicate (length n.marks) 0 }) c.self.view_is
