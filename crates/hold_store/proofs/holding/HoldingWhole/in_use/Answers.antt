use Rattle.std.proofs.Common.{◌≡◌, refl, sym, ◌∙◌, subst}
use Rattle.node_store.specs.Changes.{After}
use Rattle.hold_store.specs.Held.{ZeroStays}
use Rattle.hold_store.specs.Noted.{content_of}
use Rattle.hold_store.proofs.Calls as calls
use Rattle.hold_store.proofs.Seeking as seeking
use Rattle.std.specs.List.{count_by}
use Rattle.node_store.specs.Contents.{is_used, used_slots}
use Rattle.node_slots.specs.Stores.{is_word}
use Rattle.hold_store.proofs.holding.HoldingWhole.in_use.Goals as goal

pub returns-clause-after : goal.returns-clause-after
returns-clause-after g c =
    let s = c.self.inside in
    let k = g.S.Holds.known s.seat in
    let is = c.self.invariant.3 in
    let stands = g.met.S.Holds.stands s.seat c.self.invariant.0 in
    subst (λ x. After ZeroStays (content_of (g.S.Holds.known x.0) x.1 x.2) (content_of (g.S.Holds.known x.0) x.1 x.2)) c.self.view_is
    (calls.next_becomes k s.words s.notes s.sweeping is k s.notes stands refl refl refl is.noted.linked).after

pub returns-clause-in_use : goal.returns-clause-in_use
returns-clause-in_use g c =
    let s = c.self.inside in
    let k = g.S.Holds.known s.seat in
    let is = c.self.invariant.3 in
    let stands = g.met.S.Holds.stands s.seat c.self.invariant.0 in
    c.in_use.ensures ∙ subst (λ x. count_by is_word s.words ≡ used_slots (content_of (g.S.Holds.known x.0) x.1 x.2)) c.self.view_is (sym (seeking.count_held k.content s.words is_used is.noted.words_are is.noted.long))
