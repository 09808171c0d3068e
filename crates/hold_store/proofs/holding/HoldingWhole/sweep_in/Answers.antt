use Rattle.std.proofs.Common.{true, false, ◌∙◌, subst}
use Rattle.node_store.specs.Changes.{After}
use Rattle.hold_store.specs.Held.{ZeroStays}
use Rattle.hold_store.specs.Noted.{content_of}
use Rattle.hold_store.proofs.Calls as calls
use Rattle.hold_store.proofs.holding.HoldingWhole.sweep_in.Goals as goal

pub invariant_of-self : goal.invariant_of-self
invariant_of-self g c =
    let s = c.self.inside in
    let k = g.S.Holds.known s.seat in
    let is = c.self.invariant.3 in
    let stands = g.met.S.Holds.stands s.seat c.self.invariant.0 in
    let e = c.claim_no_answers.ensures in
    (e.own, e.home.0 ∙ c.self.invariant.1, e.home.1 ∙ c.self.invariant.2, (calls.begins k s.words s.notes s.sweeping is (g.S.Holds.known c.claim_no_answers.new.seat) c.unmark_all.new.self c.unlink_stale.new.self stands e.cleared c.unmark_all.ensures c.unlink_stale.ensures).holding)

pub returns : goal.returns
returns g c =
    let s = c.self.inside in
    let k = g.S.Holds.known s.seat in
    let is = c.self.invariant.3 in
    let stands = g.met.S.Holds.stands s.seat c.self.invariant.0 in
    let e = c.claim_no_answers.ensures in
    subst (λ x. After ZeroStays (record (content_of (g.S.Holds.known x.0) x.1 x.2) { sweeping = true; marked = λ t. false }) (content_of (g.S.Holds.known c.claim_no_answers.new.seat) c.unlink_stale.new.self.marks true)) c.self.view_is
    (calls.begins k s.words s.notes s.sweeping is (g.S.Holds.known c.claim_no_answers.new.seat) c.unmark_all.new.self c.unlink_stale.new.self stands e.cleared c.unmark_all.ensures c.unlink_stale.ensures).after
