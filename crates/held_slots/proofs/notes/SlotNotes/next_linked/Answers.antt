use Rattle.std.proofs.Common.{◌≡◌, ◌+◌, true, ap, sym, ◌∙◌, subst}
use Rattle.std.specs.Prelude.{◌%◌, ◌^◌}
use Rattle.edge_bits.specs.Reading.{slots_of}
use Rattle.held_slots.specs.Notes.{Notes}
use Rattle.held_slots.specs.Linked.{AreLinked, IsExact}
use Rattle.held_slots.specs.SlotSets.{is_gathered}
use Rattle.held_slots.specs.declared.notes.Cursor.{Cursor}
use Rattle.held_slots.proofs.Gathering.{walked_linked}
use Rattle.held_slots.proofs.notes.SlotNotes.next_linked.Goals as goal

pub follow-requires-clause-leads : goal.follow-requires-clause-leads
follow-requires-clause-leads c =
    let chain = c.args.self.now.chain in
    let on = c.in-Some.ensures.linked in
    let are = (c.requires.linked on).0 in
    let apart = c.requires.apart on in
    (is_gathered chain.older chain.newer, are, apart, c.in-Some.ensures.leads (slots_of c.args.words.now) (is_gathered chain.older chain.newer) are apart)

pub returns-clause-linked : goal.returns-clause-linked
returns-clause-linked c = λ flag.
    let word = slots_of c.args.words.now in
    let chain = c.args.self.now.chain in
    let slot = c.in_ok-slot.slot in
    let gathered = is_gathered chain.older chain.newer in
    let on : chain.linked ≡ true = ap (λ (n : Notes). n.chain.linked) (sym c.self.view_is) ∙ flag in
    let is = c.requires.linked on in
    let apart = c.requires.apart on in
    let leads = c.in-Some.ensures.leads word gathered is.0 apart in
    let own = c.in_ok-slot.ensures.chained gathered is.0 apart leads in
    let cursor : Cursor = record { var = c.args.var; from = slot + 1; link = c.note.result % 2 ^ 24 } in
    subst (λ (n : Notes). AreLinked word (is_gathered n.chain.older n.chain.newer) n.chain.links n.chain.firsts n.chain.stale cursor × IsExact word n.chain.older × IsExact word n.chain.newer) (sym c.self.view_is)
    (walked_linked word gathered chain.links chain.firsts chain.stale chain.cursor is.0 c.args.var slot (c.note.result % 2 ^ 24) c.requires.var own.0 own.1 apart c.note.ensures.link, is.1, is.2)
