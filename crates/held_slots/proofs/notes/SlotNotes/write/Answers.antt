use Rattle.std.proofs.Common.{◌≡◌, ◌<◌, ◌≤◌, length, set, ap, sym, ◌∙◌, subst, arith}
use Rattle.std.proofs.lemmas.Grind.{same_number_lists}
use Rattle.std.proofs.lemmas.List.{length-map}
use Rattle.level_table.specs.Slotted.{padded}
use Rattle.level_table.proofs.Slots.{length-padded, read_padded, set-padded}
use Rattle.held_slots.specs.Notes.{Notes, link_in, mark_in, pin_in}
use Rattle.held_slots.proofs.Padding.{written}
use Rattle.held_slots.proofs.notes.SlotNotes.write.Goals as goal

pub returns : goal.returns
returns c =
    let slots = c.self.inside.slots in
    let old = c.self.inside.notes.items in
    let new = c.lengthen.new.notes.items in
    let e = c.lengthen.ensures in
    let long = length-padded slots old c.self.invariant.within in
    let marked = length-map (padded slots old) mark_in in
    let slot_in : c.args.slot < slots = (let r = subst (λ (n : Notes). c.args.slot < length n.marks) (sym c.self.view_is) c.requires in omega (arith, r, marked, long)) in
    let fits : length new ≤ slots = (let w = e.within in let i = c.self.invariant.within in omega arith) in
    let same : padded slots new ≡ padded slots old = same_number_lists (padded slots new) (padded slots old) (length-padded slots new fits ∙ sym long)
    (λ s lt. read_padded slots new s ∙ e.same s ∙ sym (read_padded slots old s)) in
    written old (set new c.args.slot c.args.note) c.self.inside.firsts.items slots c.args.slot c.args.note c.self.inside.linked c.self.inside.stale c.self.inside.cursor c.self.inside.older c.self.inside.newer
    (set-padded slots new c.args.slot c.args.note e.reaches ∙ ap (λ xs. set xs c.args.slot c.args.note) same)
    ∙ ap (λ (n : Notes). record n { marks = set n.marks c.args.slot (mark_in c.args.note); pins = set n.pins c.args.slot (pin_in c.args.note); chain = record n.chain { links = set n.chain.links c.args.slot (link_in c.args.note) } }) c.self.view_is
