use Rattle.std.proofs.Common.{◌≡◌, ℕ, suc, ◌-◌, Bool, false, length, ap, sym, ◌∙◌, subst, arith}
use Rattle.std.specs.Prelude.{◌%◌, ◌^◌, slice_index}
use Rattle.edge_bits.specs.Reading.{slots_of}
use Rattle.held_slots.specs.Linked.{AreLinked, Leads}
use Rattle.held_slots.proofs.Leading.{at_link, shorter, skip_link}
use Rattle.held_slots.proofs.notes.SlotNotes.follow.Goals as goal

pub returns-then-has_node-clause-found : goal.returns-then-has_node-clause-found
returns-then-has_node-clause-found c =
    let are = c.requires.leads.1 in
    let l = c.loop-link.invariant c.requires.leads.0 are c.requires.leads.2 c.requires.leads.3 in
    ((at_link (slots_of c.args.words.now) are.chain (length c.args.self.now.chain.links) c.args.var c.args.from c.loop-link.link l (let some = c.loop-link-test.true in omega arith)).0, c.has_node.ensures.yes c.if-has_node.true)

pub returns-then-has_node-clause-least : goal.returns-then-has_node-clause-least
returns-then-has_node-clause-least c =
    let are = c.requires.leads.1 in
    let l = c.loop-link.invariant c.requires.leads.0 are c.requires.leads.2 c.requires.leads.3 in
    (at_link (slots_of c.args.words.now) are.chain (length c.args.self.now.chain.links) c.args.var c.args.from c.loop-link.link l (let some = c.loop-link-test.true in omega arith)).3

pub returns-then-has_node-clause-chained : goal.returns-then-has_node-clause-chained
returns-then-has_node-clause-chained c = λ gathered are apart first.
    let a = at_link (slots_of c.args.words.now) are.chain (length c.args.self.now.chain.links) c.args.var c.args.from c.loop-link.link (c.loop-link.invariant gathered are apart first) (let some = c.loop-link-test.true in omega arith) in
    (a.1, a.2)

-- the lead of the slot that is passed over
on : (c : goal.After-note-link) (gathered : ℕ → Bool) (are : AreLinked (slots_of c.args.words.now) gathered c.args.self.now.chain.links c.args.self.now.chain.firsts c.args.self.now.chain.stale c.args.self.now.chain.cursor) → gathered c.args.var ≡ false
    → Leads (slots_of c.args.words.now) are.chain (length c.args.self.now.chain.links) c.args.var c.args.from c.args.link → Leads (slots_of c.args.words.now) are.chain (length c.args.self.now.chain.links) c.args.var (suc (c.loop-link.link - 1)) (c.note-link.result % 2 ^ 24)
on c gathered are apart first =
    let a = at_link (slots_of c.args.words.now) are.chain (length c.args.self.now.chain.links) c.args.var c.args.from c.loop-link.link (c.loop-link.invariant gathered are apart first) (let some = c.loop-link-test.true in omega arith) in
    let few = c.requires.var in
    let own = a.2 in
    subst (Leads (slots_of c.args.words.now) are.chain (length c.args.self.now.chain.links) c.args.var (suc (c.loop-link.link - 1))) (sym c.note-link.ensures.link)
    (subst (λ u. Leads (slots_of c.args.words.now) are.chain (length c.args.self.now.chain.links) u (suc (c.loop-link.link - 1)) (slice_index c.args.self.now.chain.links (c.loop-link.link - 1))) own
    (are.next (c.loop-link.link - 1) a.1 (omega (arith, own, few)) (ap gathered own ∙ apart)))

pub loop-link-smaller : goal.loop-link-smaller
loop-link-smaller c =
    let are = c.requires.leads.1 in
    shorter (slots_of c.args.words.now) are.chain (length c.args.self.now.chain.links) c.args.var c.loop-link.link (c.note-link.result % 2 ^ 24) (on c c.requires.leads.0 are c.requires.leads.2 c.requires.leads.3) (let some = c.loop-link-test.true in omega arith) (let fits = c.loop-link.auto.link-fits in omega arith)

pub loop-link-preserved : goal.loop-link-preserved
loop-link-preserved c = λ gathered are apart first.
    skip_link (slots_of c.args.words.now) are.chain (length c.args.self.now.chain.links) c.args.var c.args.from c.loop-link.link (c.note-link.result % 2 ^ 24) (c.loop-link.invariant gathered are apart first)
    (let some = c.loop-link-test.true in omega arith) (c.has_node.ensures.no c.if-has_node.false) (on c gathered are apart first)

pub returns-clause-none : goal.returns-clause-none
returns-clause-none c = (c.loop-link.invariant c.requires.leads.0 c.requires.leads.1 c.requires.leads.2 c.requires.leads.3).none (let end = c.loop-link-test.false in omega arith)
