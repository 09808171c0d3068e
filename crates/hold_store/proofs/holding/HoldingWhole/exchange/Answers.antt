use Rattle.std.proofs.Common.{None, sym, ◌∙◌, subst}
use Rattle.node_store.specs.Changes.{After}
use Rattle.hold_store.specs.Held.{ZeroStays}
use Rattle.hold_store.specs.Noted.{content_of}
use Rattle.hold_store.proofs.Calls as calls
use Rattle.node_store.specs.Changes.{CanExchange, exchanged}
use Rattle.hold_store.proofs.holding.HoldingWhole.exchange.Goals as goal

pub exchange_levels-requires-clause-can : goal.exchange_levels-requires-clause-can
exchange_levels-requires-clause-can g c =
    let s = c.self.inside in
    let k = g.S.Holds.known s.seat in
    let is = c.self.invariant.3 in
    let stands = g.met.S.Holds.stands s.seat c.self.invariant.0 in
    let can = subst (λ x. CanExchange (content_of (g.S.Holds.known x.0) x.1 x.2) c.args.order c.args.level) (sym c.self.view_is) c.requires in
    record { within = can.within; half = can.half; lacks = can.lacks }

pub invariant_of-self : goal.invariant_of-self
invariant_of-self g c =
    let s = c.self.inside in
    let k = g.S.Holds.known s.seat in
    let is = c.self.invariant.3 in
    let stands = g.met.S.Holds.stands s.seat c.self.invariant.0 in
    let e = c.exchange_levels.ensures in
    (e.own, e.home.0 ∙ c.self.invariant.1, e.home.1 ∙ c.self.invariant.2, (calls.exchanges k s.words s.notes s.sweeping is (g.S.Holds.known c.exchange_levels.new.seat) c.args.order c.args.level (g.met.S.Holds.stands c.exchange_levels.new.seat e.own) e.ready e.exchanged).holding)

pub returns : goal.returns
returns g c =
    let s = c.self.inside in
    let k = g.S.Holds.known s.seat in
    let is = c.self.invariant.3 in
    let stands = g.met.S.Holds.stands s.seat c.self.invariant.0 in
    let e = c.exchange_levels.ensures in
    subst (λ x. After ZeroStays (record (content_of (g.S.Holds.known x.0) x.1 x.2) { orders = exchanged (content_of (g.S.Holds.known x.0) x.1 x.2).orders c.args.order c.args.level; half = None }) (content_of (g.S.Holds.known c.exchange_levels.new.seat) s.notes.marks s.sweeping)) c.self.view_is
    (calls.exchanges k s.words s.notes s.sweeping is (g.S.Holds.known c.exchange_levels.new.seat) c.args.order c.args.level (g.met.S.Holds.stands c.exchange_levels.new.seat e.own) e.ready e.exchanged).after
