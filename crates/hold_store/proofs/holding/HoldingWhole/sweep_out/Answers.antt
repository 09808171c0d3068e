use Rattle.std.proofs.Common.{false, ap, ◌∙◌, subst}
use Rattle.node_store.specs.Changes.{After}
use Rattle.hold_store.specs.Held.{ZeroStays}
use Rattle.hold_store.specs.Noted.{content_of}
use Rattle.hold_store.proofs.Calls as calls
use Rattle.hold_store.specs.Noted.{IsCleared}
use Rattle.hold_store.proofs.holding.HoldingWhole.sweep_out.Goals as goal

pub give_memo-requires-clause-memo : goal.give_memo-requires-clause-memo
give_memo-requires-clause-memo g c =
    let s = c.self.inside in
    let k = g.S.Holds.known s.seat in
    let is = c.self.invariant.3 in
    let stands = g.met.S.Holds.stands s.seat c.self.invariant.0 in
    let on = ap (λ x. x.2) c.self.view_is ∙ c.requires in
    ((λ _. false), subst (λ b. IsCleared b k.hand.named) on is.memo)

pub invariant_of-self : goal.invariant_of-self
invariant_of-self g c =
    let s = c.self.inside in
    let k = g.S.Holds.known s.seat in
    let is = c.self.invariant.3 in
    let stands = g.met.S.Holds.stands s.seat c.self.invariant.0 in
    let e = c.give_memo.ensures in
    (e.own, e.home.0 ∙ c.self.invariant.1, e.home.1 ∙ c.self.invariant.2, (calls.ends k s.words s.notes s.sweeping is (g.S.Holds.known c.give_memo.new.self) stands e.given).holding)

pub returns : goal.returns
returns g c =
    let s = c.self.inside in
    let k = g.S.Holds.known s.seat in
    let is = c.self.invariant.3 in
    let stands = g.met.S.Holds.stands s.seat c.self.invariant.0 in
    let e = c.give_memo.ensures in
    subst (λ x. After ZeroStays (record (content_of (g.S.Holds.known x.0) x.1 x.2) { sweeping = false }) (content_of (g.S.Holds.known c.give_memo.new.self) s.notes.marks false)) c.self.view_is
    (calls.ends k s.words s.notes s.sweeping is (g.S.Holds.known c.give_memo.new.self) stands e.given).after
