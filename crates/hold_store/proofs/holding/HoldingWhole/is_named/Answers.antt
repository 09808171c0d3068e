use Rattle.std.proofs.Common.{refl, sym, subst}
use Rattle.node_store.specs.Changes.{After}
use Rattle.hold_store.specs.Held.{ZeroStays}
use Rattle.hold_store.specs.Noted.{content_of}
use Rattle.hold_store.proofs.Calls as calls
use Rattle.hold_store.proofs.Seeking as seeking
use Rattle.node_store.specs.Contents.{IsNamed}
use Rattle.hold_store.proofs.holding.HoldingWhole.is_named.Goals as goal

pub returns-clause-after : goal.returns-clause-after
returns-clause-after g c =
    let s = c.self.inside in
    let k = g.S.Holds.known s.seat in
    let is = c.self.invariant.3 in
    let stands = g.met.S.Holds.stands s.seat c.self.invariant.0 in
    subst (λ x. After ZeroStays (content_of (g.S.Holds.known x.0) x.1 x.2) (content_of k s.notes.marks s.sweeping)) c.self.view_is
    (calls.next_becomes k s.words s.notes s.sweeping is k s.notes stands refl refl refl is.noted.linked).after

pub returns-clause-named : goal.returns-clause-named
returns-clause-named g c = λ yes.
    let s = c.self.inside in
    let k = g.S.Holds.known s.seat in
    let is = c.self.invariant.3 in
    let stands = g.met.S.Holds.stands s.seat c.self.invariant.0 in
    subst (λ x. IsNamed (content_of (g.S.Holds.known x.0) x.1 x.2) c.args.slot) c.self.view_is (seeking.names (content_of k s.notes.marks s.sweeping) s.words c.args.slot is.noted.words_are (c.is_named.ensures.yes yes))

pub returns-clause-unnamed : goal.returns-clause-unnamed
returns-clause-unnamed g c = λ no_one named.
    let s = c.self.inside in
    let k = g.S.Holds.known s.seat in
    let is = c.self.invariant.3 in
    let stands = g.met.S.Holds.stands s.seat c.self.invariant.0 in
    c.is_named.ensures.no no_one (seeking.named_in (content_of k s.notes.marks s.sweeping) s.words c.args.slot is.noted.words_are (subst (λ x. IsNamed (content_of (g.S.Holds.known x.0) x.1 x.2) c.args.slot) (sym c.self.view_is) named))
