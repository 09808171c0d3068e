use Rattle.std.proofs.Common.{◌≡◌, get_or, length, ap, sym, ◌∙◌, subst, arith}
use Rattle.std.proofs.lemmas.List.{get_or_default}
use Rattle.held_slots.specs.Linked.{Leads}
use Rattle.held_slots.specs.Notes.{Notes}
use Rattle.held_slots.proofs.notes.SlotNotes.lead.Goals as goal

pub returns-then-from-eq0-clause-leads : goal.returns-then-from-eq0-clause-leads
returns-then-from-eq0-clause-leads c = λ word gathered are apart.
    let long = c.self.invariant.variables in
    let var = c.requires in
    let read : get_or c.args.self.now.chain.firsts c.args.var 0 ≡ c.index.result.now =
    ap (λ (n : Notes). get_or n.chain.firsts c.args.var 0) (sym c.self.view_is) ∙ get_or_default c.self.inside.firsts.items c.args.var 0 c.index.result.now (omega (arith, long, var)) ∙ sym c.index.ensures in
    subst (λ f. Leads word are.chain (length c.args.self.now.chain.links) c.args.var f c.index.result.now) (sym c.if-from-eq0.true)
    (subst (Leads word are.chain (length c.args.self.now.chain.links) c.args.var 0) read (are.first c.args.var var apart))
