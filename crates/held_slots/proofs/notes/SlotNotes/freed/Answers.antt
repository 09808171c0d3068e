use Rattle.std.proofs.Common.{true, refl, ap, sym, ◌∙◌, subst}
use Rattle.std.specs.Prelude.{not}
use Rattle.held_slots.specs.Notes.{Notes}
use Rattle.held_slots.specs.Linked.{IsLinkedTo}
use Rattle.held_slots.proofs.Lasting.{freed_notes, never}
use Rattle.held_slots.proofs.notes.SlotNotes.freed.Goals as goal
use Rattle.held_slots.proofs.notes.SlotNotes.freed.Goals.{then-may_lead_to, else-may_lead_to}

pub returns-clause-linked : goal.returns-clause-linked
returns-clause-linked c = λ word new is changed was none.
    let put = c.put.ensures in
    let old = c.args.self.now in
    let m = c.if-may_lead_to.self in
    subst (λ (n : Notes). IsLinkedTo new n.chain) (sym put.rest)
    (elim c.if-may_lead_to.branch [
      | then-may_lead_to w ↦ freed_notes word new c.args.slot changed none old m true (w.self-is ∙ ap (λ (n : Notes). record n { chain = record n.chain { stale = true } }) c.self.view_is) is
          c.put.new.self.chain.older c.put.new.self.chain.newer put.older put.newer c.args.was was (λ _. refl) (λ a e apart. refl)
      | else-may_lead_to w ↦ freed_notes word new c.args.slot changed none old m old.chain.stale w.self-is is
          c.put.new.self.chain.older c.put.new.self.chain.newer put.older put.newer c.args.was was (λ h. h) (λ a e apart. never (sym (c.may_lead_to.ensures a e ∙ ap not apart) ∙ w.if-may_lead_to.false))
    ])
