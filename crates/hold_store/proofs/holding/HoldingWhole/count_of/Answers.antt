use Rattle.std.proofs.Common.{◌∙◌, subst}
use Rattle.node_store.specs.Changes.{After}
use Rattle.hold_store.specs.Held.{ZeroStays}
use Rattle.hold_store.specs.Noted.{content_of}
use Rattle.hold_store.proofs.Calls as calls
use Rattle.hold_store.proofs.holding.HoldingWhole.count_of.Goals as goal

pub invariant_of-self : goal.invariant_of-self
invariant_of-self g c =
    let s = c.self.inside in
    let k = g.S.Holds.known s.seat in
    let is = c.self.invariant.3 in
    let stands = g.met.S.Holds.stands s.seat c.self.invariant.0 in
    let n = c.load_count.ensures in
    (n.own, n.home.0 ∙ c.self.invariant.1, n.home.1 ∙ c.self.invariant.2, (calls.counts k s.words s.notes s.sweeping is (g.S.Holds.known c.load_count.new.self) c.args.slot n.counted.0 (g.met.S.Holds.stands c.load_count.new.self n.own) n.counted.1 n.stays).holding)

pub returns-clause-after : goal.returns-clause-after
returns-clause-after g c =
    let s = c.self.inside in
    let k = g.S.Holds.known s.seat in
    let is = c.self.invariant.3 in
    let stands = g.met.S.Holds.stands s.seat c.self.invariant.0 in
    let n = c.load_count.ensures in
    subst (λ x. After ZeroStays (content_of (g.S.Holds.known x.0) x.1 x.2) (content_of (g.S.Holds.known c.load_count.new.self) s.notes.marks s.sweeping)) c.self.view_is
    (calls.counts k s.words s.notes s.sweeping is (g.S.Holds.known c.load_count.new.self) c.args.slot n.counted.0 (g.met.S.Holds.stands c.load_count.new.self n.own) n.counted.1 n.stays).after
