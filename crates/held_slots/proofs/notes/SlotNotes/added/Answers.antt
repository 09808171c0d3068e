use Rattle.std.proofs.Common.{Some, refl, ap, sym, ◌∙◌, subst}
use Rattle.held_slots.specs.Notes.{Notes}
use Rattle.held_slots.specs.Linked.{IsLinkedTo}
use Rattle.held_slots.proofs.Lasting.{added_linked}
use Rattle.held_slots.proofs.notes.SlotNotes.added.Goals as goal

pub returns-then-not-self-clause-linked : goal.returns-then-not-self-clause-linked
returns-then-not-self-clause-linked c = λ word new is changed was now.
    let put = c.put.ensures in
    subst (λ (n : Notes). IsLinkedTo new n.chain) (sym put.rest)
    (added_linked word new c.args.slot (Some c.args.var) changed now c.args.self.now.chain is c.put.new.self.chain.older c.put.new.self.chain.newer put.older put.newer c.args.var was refl
    (sym c.is_gathered.ensures ∙ c.if-is_gathered.true) (ap (λ (n : Notes). n.chain.stale) (sym c.self.view_is) ∙ c.if-not-self.true))
