use Rattle.std.proofs.Common.{◌≡◌, true, sym, ◌∙◌, subst}
use Rattle.node_store.specs.Changes.{After}
use Rattle.hold_store.specs.Held.{ZeroStays}
use Rattle.hold_store.specs.Noted.{content_of}
use Rattle.hold_store.proofs.Calls as calls
use Rattle.hold_store.proofs.Seeking as seeking
use Rattle.edge_bits.specs.Reading.{slots_of}
use Rattle.held_slots.specs.Linked.{IsLinkedTo}
use Rattle.node_store.specs.Contents.{is_node_of, var_at as number_at}
use Rattle.node_store.specs.Changes.{IsLeastFrom}
use Rattle.hold_store.proofs.holding.HoldingWhole.next_of.Goals as goal

pub invariant_of-self : goal.invariant_of-self
invariant_of-self g c =
    let s = c.self.inside in
    let k = g.S.Holds.known s.seat in
    let is = c.self.invariant.3 in
    let stands = g.met.S.Holds.stands s.seat c.self.invariant.0 in
    let e = c.var_at-var.ensures in
    let n = c.next.ensures in
    (e.own, e.home.0 ∙ c.self.invariant.1, e.home.1 ∙ c.self.invariant.2, calls.next k s.words s.notes s.sweeping is (g.S.Holds.known c.var_at-var.new.seat) c.next.new.self e.same n.marks n.pins (subst (λ f. IsLinkedTo f c.next.new.self.chain) (seeking.words_read s.words c.words.result.now c.words.ensures.words) n.linked))

pub returns-clause-after : goal.returns-clause-after
returns-clause-after g c =
    let s = c.self.inside in
    let k = g.S.Holds.known s.seat in
    let is = c.self.invariant.3 in
    let stands = g.met.S.Holds.stands s.seat c.self.invariant.0 in
    let n = c.next.ensures in
    subst (λ x. After ZeroStays (content_of (g.S.Holds.known x.0) x.1 x.2) (content_of (g.S.Holds.known c.var_at-var.new.seat) c.next.new.self.marks s.sweeping)) c.self.view_is
    (calls.next_becomes k s.words s.notes s.sweeping is (g.S.Holds.known c.var_at-var.new.seat) c.next.new.self stands c.var_at-var.ensures.same n.marks n.pins (subst (λ f. IsLinkedTo f c.next.new.self.chain) (seeking.words_read s.words c.words.result.now c.words.ensures.words) n.linked)).after

pub returns-clause-next : goal.returns-clause-next
returns-clause-next g c =
    let s = c.self.inside in
    let k = g.S.Holds.known s.seat in
    let is = c.self.invariant.3 in
    let stands = g.met.S.Holds.stands s.seat c.self.invariant.0 in
    let n = c.next.ensures in
    subst (λ x. IsLeastFrom (content_of (g.S.Holds.known x.0) x.1 x.2) (λ t. is_node_of (number_at (content_of (g.S.Holds.known x.0) x.1 x.2) c.args.order c.args.level) ((content_of (g.S.Holds.known x.0) x.1 x.2).word t) ≡ true) c.args.from c.next.result) c.self.view_is
    (subst (λ v. IsLeastFrom (content_of k s.notes.marks s.sweeping) (λ t. is_node_of v (k.content.word t) ≡ true) c.args.from c.next.result) c.var_at-var.ensures.var
    (seeking.least_node (slots_of c.words.result.now) (content_of k s.notes.marks s.sweeping) (seeking.words_read s.words c.words.result.now c.words.ensures.words ∙ is.noted.words_are) c.var_at-var.result c.args.from c.next.result n.found n.least n.none))

pub next-requires-clause-linked : goal.next-requires-clause-linked
next-requires-clause-linked g c =
    let s = c.self.inside in
    let k = g.S.Holds.known s.seat in
    let is = c.self.invariant.3 in
    let stands = g.met.S.Holds.stands s.seat c.self.invariant.0 in
    subst (λ f. IsLinkedTo f s.notes.chain) (sym (seeking.words_read s.words c.words.result.now c.words.ensures.words)) is.noted.linked
