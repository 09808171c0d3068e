use Rattle.std.proofs.Common.{◌≡◌, true, refl, subst}
use Rattle.node_store.specs.Changes.{After}
use Rattle.hold_store.specs.Held.{ZeroStays}
use Rattle.hold_store.specs.Noted.{content_of}
use Rattle.hold_store.proofs.Calls as calls
use Rattle.hold_store.proofs.Seeking as seeking
use Rattle.edge_bits.specs.Reading.{slots_of}
use Rattle.node_store.specs.Contents.{is_leaf}
use Rattle.node_store.specs.Changes.{IsLeastFrom}
use Rattle.hold_store.proofs.holding.HoldingWhole.next_leaf.Goals as goal

pub returns-clause-after : goal.returns-clause-after
returns-clause-after g c =
    let s = c.self.inside in
    let k = g.S.Holds.known s.seat in
    let is = c.self.invariant.3 in
    let stands = g.met.S.Holds.stands s.seat c.self.invariant.0 in
    subst (λ x. After ZeroStays (content_of (g.S.Holds.known x.0) x.1 x.2) (content_of (g.S.Holds.known x.0) x.1 x.2)) c.self.view_is
    (calls.next_becomes k s.words s.notes s.sweeping is k s.notes stands refl refl refl is.noted.linked).after

pub returns-clause-next : goal.returns-clause-next
returns-clause-next g c =
    let s = c.self.inside in
    let k = g.S.Holds.known s.seat in
    let is = c.self.invariant.3 in
    let stands = g.met.S.Holds.stands s.seat c.self.invariant.0 in
    let e = c.next_leaf.ensures in
    subst (λ x. IsLeastFrom (content_of (g.S.Holds.known x.0) x.1 x.2) (λ t. is_leaf ((content_of (g.S.Holds.known x.0) x.1 x.2).word t) ≡ true) c.args.from c.next_leaf.result) c.self.view_is
    (seeking.least_word (slots_of s.words) (content_of k s.notes.marks s.sweeping) is.noted.words_are is_leaf c.args.from c.next_leaf.result e.found e.least e.none)
