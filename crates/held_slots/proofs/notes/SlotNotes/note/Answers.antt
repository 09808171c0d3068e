use Rattle.std.proofs.Common.{get_or, refl, ap, sym, ◌∙◌}
use Rattle.held_slots.specs.Notes.{Notes, link_in, mark_in, pin_in}
use Rattle.held_slots.proofs.Padding.{read}
use Rattle.held_slots.proofs.notes.SlotNotes.note.Goals as goal

pub returns-clause-mark : goal.returns-clause-mark
returns-clause-mark c = ap mark_in (c.note_of.ensures ∙ ap (λ xs. get_or xs c.args.slot 0) c.deref.ensures.value) ∙ sym (read mark_in refl c.self.inside.slots c.self.inside.notes.items c.args.slot) ∙ ap (λ (n : Notes). get_or n.marks c.args.slot 0) c.self.view_is

pub returns-clause-pin : goal.returns-clause-pin
returns-clause-pin c = ap pin_in (c.note_of.ensures ∙ ap (λ xs. get_or xs c.args.slot 0) c.deref.ensures.value) ∙ sym (read pin_in refl c.self.inside.slots c.self.inside.notes.items c.args.slot) ∙ ap (λ (n : Notes). get_or n.pins c.args.slot 0) c.self.view_is

pub returns-clause-link : goal.returns-clause-link
returns-clause-link c = ap link_in (c.note_of.ensures ∙ ap (λ xs. get_or xs c.args.slot 0) c.deref.ensures.value) ∙ sym (read link_in refl c.self.inside.slots c.self.inside.notes.items c.args.slot) ∙ ap (λ (n : Notes). get_or n.chain.links c.args.slot 0) c.self.view_is
