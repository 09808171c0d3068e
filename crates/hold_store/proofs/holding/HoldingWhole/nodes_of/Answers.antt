use Rattle.std.proofs.Common.{◌≡◌, refl, ap, sym, ◌∙◌, subst}
use Rattle.node_store.specs.Changes.{After}
use Rattle.hold_store.specs.Held.{ZeroStays}
use Rattle.hold_store.specs.Noted.{content_of}
use Rattle.hold_store.proofs.Calls as calls
use Rattle.hold_store.proofs.Seeking as seeking
use Rattle.node_store.specs.Contents.{is_node_of, nodes_of, var_at as number_at}
use Rattle.hold_store.proofs.holding.HoldingWhole.nodes_of.Goals as goal

pub invariant_of-self : goal.invariant_of-self
invariant_of-self g c =
    let s = c.self.inside in
    let k = g.S.Holds.known s.seat in
    let is = c.self.invariant.3 in
    let stands = g.met.S.Holds.stands s.seat c.self.invariant.0 in
    let e = c.var_at-var.ensures in
    (e.own, e.home.0 ∙ c.self.invariant.1, e.home.1 ∙ c.self.invariant.2, calls.next k s.words s.notes s.sweeping is (g.S.Holds.known c.var_at-var.new.seat) s.notes e.same refl refl is.noted.linked)

pub returns-clause-after : goal.returns-clause-after
returns-clause-after g c =
    let s = c.self.inside in
    let k = g.S.Holds.known s.seat in
    let is = c.self.invariant.3 in
    let stands = g.met.S.Holds.stands s.seat c.self.invariant.0 in
    subst (λ x. After ZeroStays (content_of (g.S.Holds.known x.0) x.1 x.2) (content_of (g.S.Holds.known c.var_at-var.new.seat) s.notes.marks s.sweeping)) c.self.view_is
    (calls.next_becomes k s.words s.notes s.sweeping is (g.S.Holds.known c.var_at-var.new.seat) s.notes stands c.var_at-var.ensures.same refl refl is.noted.linked).after

pub returns-clause-nodes : goal.returns-clause-nodes
returns-clause-nodes g c =
    let s = c.self.inside in
    let k = g.S.Holds.known s.seat in
    let is = c.self.invariant.3 in
    let stands = g.met.S.Holds.stands s.seat c.self.invariant.0 in
    subst (λ x. c.nodes_of.result ≡ nodes_of (content_of (g.S.Holds.known x.0) x.1 x.2) (number_at (content_of (g.S.Holds.known x.0) x.1 x.2) c.args.order c.args.level)) c.self.view_is
    (c.nodes_of.ensures ∙ sym (seeking.count_held k.content s.words (is_node_of c.var_at-var.result) is.noted.words_are is.noted.long) ∙ ap (nodes_of (content_of k s.notes.marks s.sweeping)) c.var_at-var.ensures.var)
