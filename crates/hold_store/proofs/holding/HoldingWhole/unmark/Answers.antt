use Rattle.std.proofs.Common.{◌≡◌, ◌<◌, false, sym, subst}
use Rattle.node_store.specs.Changes.{After}
use Rattle.hold_store.specs.Held.{ZeroStays}
use Rattle.hold_store.specs.Noted.{content_of}
use Rattle.hold_store.proofs.Calls as calls
use Rattle.std.proofs.Common.{set}
use Rattle.held_slots.specs.Notes.{Notes, flag}
use Rattle.node_store.specs.Changes.{with_mark}
use Rattle.hold_store.specs.Noted.{IsHolding}
use Rattle.hold_store.proofs.holding.HoldingWhole.unmark.Goals as goal

pub invariant_of-self : goal.invariant_of-self
invariant_of-self g c =
    let s = c.self.inside in
    let k = g.S.Holds.known s.seat in
    let is = c.self.invariant.3 in
    let stands = g.met.S.Holds.stands s.seat c.self.invariant.0 in
    let within = subst (λ x. c.args.slot < (content_of (g.S.Holds.known x.0) x.1 x.2).limit) (sym c.self.view_is) c.requires in
    subst (λ (n : Notes). g.S.Holds.holds s.seat × (g.S.Holds.table s.seat ≡ g.E.Home.number) × (g.S.Holds.rest s.seat ≡ g.E.Home.rest) × IsHolding k s.words n s.sweeping) (sym c.set_mark.ensures)
    (c.self.invariant.0, c.self.invariant.1, c.self.invariant.2, (calls.marks_it k s.words s.notes s.sweeping is c.args.slot false stands within).holding)

pub returns : goal.returns
returns g c =
    let s = c.self.inside in
    let k = g.S.Holds.known s.seat in
    let is = c.self.invariant.3 in
    let stands = g.met.S.Holds.stands s.seat c.self.invariant.0 in
    let within = subst (λ x. c.args.slot < (content_of (g.S.Holds.known x.0) x.1 x.2).limit) (sym c.self.view_is) c.requires in
    subst (λ (n : Notes). After ZeroStays (with_mark (content_of (g.S.Holds.known c.args.self.now.0) c.args.self.now.1 c.args.self.now.2) c.args.slot false) (content_of k n.marks s.sweeping)) (sym c.set_mark.ensures)
    (subst (λ x. After ZeroStays (with_mark (content_of (g.S.Holds.known x.0) x.1 x.2) c.args.slot false) (content_of k (set s.notes.marks c.args.slot (flag false)) s.sweeping)) c.self.view_is
    (calls.marks_it k s.words s.notes s.sweeping is c.args.slot false stands within).after)
