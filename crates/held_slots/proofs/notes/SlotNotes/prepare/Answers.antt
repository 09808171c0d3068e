use Rattle.std.proofs.Common.{sym, ◌∙◌, subst}
use Rattle.std.specs.Prelude.{map}
use Rattle.level_table.specs.Slotted.{padded}
use Rattle.edge_bits.specs.Reading.{slots_of}
use Rattle.held_slots.specs.Notes.{Notes, link_in}
use Rattle.held_slots.specs.Linked.{AreLinked, IsExact, IsLinkedTo}
use Rattle.held_slots.specs.SlotSets.{is_gathered}
use Rattle.held_slots.proofs.Gathering.{swapped_linked}
use Rattle.held_slots.proofs.notes.SlotNotes.prepare.Goals as goal

pub gather_linked-requires-clause-linked : goal.gather_linked-requires-clause-linked
gather_linked-requires-clause-linked c =
    let word = slots_of c.args.words.now in
    let was = c.self.inside in
    let links = map link_in (padded was.slots was.notes.items) in
    c.link_gathered.ensures.linked word (λ flag.
    let l = subst (λ (n : Notes). IsLinkedTo word n.chain) (sym c.self.view_is) c.requires.linked flag in
    subst (λ x. AreLinked word (is_gathered x c.swap.new.y) links was.firsts.items was.stale was.cursor × IsExact word x × IsExact word c.swap.new.y) (sym c.swap.ensures.x_after)
    (subst (λ y. AreLinked word (is_gathered was.newer y) links was.firsts.items was.stale was.cursor × IsExact word was.newer × IsExact word y) (sym c.swap.ensures.y_after)
    (swapped_linked word was.older was.newer links was.firsts.items was.stale was.cursor l.0, l.2, l.1)))

pub gather_linked-requires-clause-on : goal.gather_linked-requires-clause-on
gather_linked-requires-clause-on c = c.link_gathered.ensures.on ∙ c.if-not-self.false
