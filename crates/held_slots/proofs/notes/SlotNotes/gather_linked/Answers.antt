use Rattle.std.proofs.Common.{◌≡◌, Some, false, length, get_or, refl, ap, sym, ◌∙◌, subst, arith}
use Rattle.std.proofs.lemmas.List.{get_or_default}
use Rattle.edge_bits.specs.Reading.{slots_of}
use Rattle.held_slots.specs.Notes.{Notes, link_in}
use Rattle.held_slots.specs.Linked.{AreLinked, IsExact, LeadsThrough}
use Rattle.held_slots.specs.SlotSets.{is_gathered, is_same}
use Rattle.held_slots.proofs.Padding.{field-length, read}
use Rattle.held_slots.proofs.Gathering.{fewer_linked, or_none, through}
use Rattle.held_slots.proofs.notes.SlotNotes.gather_linked.Goals as goal

pub gather-requires-clause-from : goal.gather-requires-clause-from
gather-requires-clause-from c =
    let chain = c.args.self.now.chain in
    let slots = c.self.inside.slots in
    let notes = c.self.inside.notes.items in
    let few = c.requires.var in
    let variables = c.self.invariant.variables in
    let apart : is_gathered chain.older chain.newer c.args.var ≡ false = or_none (is_same chain.older.variable (Some c.args.var)) (is_same chain.newer.variable (Some c.args.var)) c.requires.apart (ap (λ o. is_same o (Some c.args.var)) c.requires.none) in
    let first : get_or chain.firsts c.args.var 0 ≡ c.index-first.result.now =
    ap (λ (n : Notes). get_or n.chain.firsts c.args.var 0) (sym c.self.view_is) ∙ get_or_default c.self.inside.firsts.items c.args.var 0 c.index-first.result.now (omega (arith, variables, few)) ∙ sym c.index-first.ensures in
    let long : length chain.links ≡ c.self.inside.newer.slots.limit = ap (λ (n : Notes). length n.chain.links) (sym c.self.view_is) ∙ field-length link_in refl slots notes c.self.invariant.within ∙ sym c.self.invariant.newer_fits in
    subst (λ xs. LeadsThrough (slots_of c.args.words.now) xs c.self.inside.newer.slots.limit c.args.var c.index-first.result.now) (sym c.deref.ensures.value)
    (through (slots_of c.args.words.now) (is_gathered chain.older chain.newer) chain.links chain.firsts chain.stale chain.cursor (c.requires.linked c.requires.on).0 notes c.self.inside.newer.slots.limit c.args.var c.index-first.result.now long few apart first
    (λ s. ap (λ (n : Notes). get_or n.chain.links s 0) (sym c.self.view_is) ∙ read link_in refl slots notes s))

pub returns-clause-linked : goal.returns-clause-linked
returns-clause-linked c = λ flag.
    let word = slots_of c.args.words.now in
    let chain = c.args.self.now.chain in
    let after = c.gather.new.self in
    let is = c.requires.linked c.requires.on in
    let p = subst (λ (n : Notes). AreLinked word (is_gathered n.chain.older after) n.chain.links n.chain.firsts n.chain.stale n.chain.cursor × IsExact word n.chain.older) (sym c.self.view_is)
    (fewer_linked word chain.older chain.newer after chain.links chain.firsts chain.stale chain.cursor c.requires.none is.0, is.1) in
    (p.0, p.1, c.gather.ensures.exact)
