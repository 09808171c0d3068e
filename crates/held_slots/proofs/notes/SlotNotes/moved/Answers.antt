use Rattle.std.proofs.Common.{Some, refl, sym, ◌∙◌, subst}
use Rattle.held_slots.specs.Notes.{Notes}
use Rattle.held_slots.specs.Linked.{IsLinkedTo}
use Rattle.held_slots.proofs.Lasting.{moved_linked}
use Rattle.held_slots.proofs.notes.SlotNotes.moved.Goals as goal

pub returns-then-is_gathered-2-clause-linked : goal.returns-then-is_gathered-2-clause-linked
returns-then-is_gathered-2-clause-linked c = λ word new is changed was now.
    let put = c.put.ensures in
    subst (λ (n : Notes). IsLinkedTo new n.chain) (sym put.rest)
    (moved_linked word new c.args.slot (Some c.args.var) changed now c.args.self.now.chain is c.put.new.self.chain.older c.put.new.self.chain.newer put.older put.newer c.args.was c.args.var was refl
    (sym c.is_gathered.ensures ∙ c.if-is_gathered.true) (sym c.is_gathered-then-is_gathered.ensures ∙ c.if-is_gathered-2.true))
