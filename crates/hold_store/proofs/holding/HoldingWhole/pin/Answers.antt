use Rattle.std.proofs.Common.{◌≡◌, true, sym, ◌∙◌, subst}
use Rattle.node_store.specs.Changes.{After}
use Rattle.hold_store.specs.Held.{ZeroStays}
use Rattle.hold_store.specs.Noted.{content_of}
use Rattle.hold_store.proofs.Calls as calls
use Rattle.hold_store.proofs.Wholes as wholes
use Rattle.held_slots.specs.Notes.{Notes}
use Rattle.node_store.specs.Contents.{IsUsed}
use Rattle.node_store.specs.Changes.{with_pin}
use Rattle.hold_store.specs.Noted.{IsHolding}
use Rattle.hold_store.proofs.holding.HoldingWhole.pin.Goals as goal

pub invariant_of-self : goal.invariant_of-self
invariant_of-self g c =
    let s = c.self.inside in
    let k = g.S.Holds.known s.seat in
    let is = c.self.invariant.3 in
    let stands = g.met.S.Holds.stands s.seat c.self.invariant.0 in
    let within = wholes.used_within k stands c.args.slot (subst (λ x. IsUsed (content_of (g.S.Holds.known x.0) x.1 x.2) c.args.slot) (sym c.self.view_is) c.requires.used) in
    let e = c.pin_count.ensures in
    subst (λ (n : Notes). g.S.Holds.holds c.pin_count.new.self × (g.S.Holds.table c.pin_count.new.self ≡ g.E.Home.number) × (g.S.Holds.rest c.pin_count.new.self ≡ g.E.Home.rest) × IsHolding (g.S.Holds.known c.pin_count.new.self) s.words n s.sweeping) (sym c.set_pin.ensures)
    (e.own, e.home.0 ∙ c.self.invariant.1, e.home.1 ∙ c.self.invariant.2, (calls.pins_it k s.words s.notes s.sweeping is (g.S.Holds.known c.pin_count.new.self) c.args.slot true (g.met.S.Holds.stands c.pin_count.new.self e.own) within e.pinned).holding)

pub returns : goal.returns
returns g c =
    let s = c.self.inside in
    let k = g.S.Holds.known s.seat in
    let is = c.self.invariant.3 in
    let stands = g.met.S.Holds.stands s.seat c.self.invariant.0 in
    let within = wholes.used_within k stands c.args.slot (subst (λ x. IsUsed (content_of (g.S.Holds.known x.0) x.1 x.2) c.args.slot) (sym c.self.view_is) c.requires.used) in
    let e = c.pin_count.ensures in
    subst (λ x. After ZeroStays (with_pin (content_of (g.S.Holds.known x.0) x.1 x.2) c.args.slot true) (content_of (g.S.Holds.known c.pin_count.new.self) c.set_pin.new.self.marks s.sweeping)) c.self.view_is
    (subst (λ (n : Notes). After ZeroStays (with_pin (content_of k s.notes.marks s.sweeping) c.args.slot true) (content_of (g.S.Holds.known c.pin_count.new.self) n.marks s.sweeping)) (sym c.set_pin.ensures)
    (calls.pins_it k s.words s.notes s.sweeping is (g.S.Holds.known c.pin_count.new.self) c.args.slot true (g.met.S.Holds.stands c.pin_count.new.self e.own) within e.pinned).after)
