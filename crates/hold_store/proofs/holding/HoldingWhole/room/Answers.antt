use Rattle.std.proofs.Common.{◌≡◌, length, refl, subst}
use Rattle.node_store.specs.Changes.{After}
use Rattle.hold_store.specs.Held.{ZeroStays}
use Rattle.hold_store.specs.Noted.{content_of}
use Rattle.hold_store.proofs.Calls as calls
use Rattle.hold_store.proofs.Seeking as seeking
use Rattle.std.proofs.Common.{◌+◌, ◌-◌, arith}
use Rattle.std.specs.List.{count_by}
use Rattle.std.proofs.lemmas.List.Sums.{count_by-le-length}
use Rattle.node_store.specs.Contents.{is_used, used_slots}
use Rattle.node_slots.specs.Stores.{is_word}
use Rattle.hold_store.proofs.holding.HoldingWhole.room.Goals as goal

pub returns-clause-after : goal.returns-clause-after
returns-clause-after g c =
    let s = c.self.inside in
    let k = g.S.Holds.known s.seat in
    let is = c.self.invariant.3 in
    let stands = g.met.S.Holds.stands s.seat c.self.invariant.0 in
    subst (λ x. After ZeroStays (content_of (g.S.Holds.known x.0) x.1 x.2) (content_of (g.S.Holds.known x.0) x.1 x.2)) c.self.view_is
    (calls.next_becomes k s.words s.notes s.sweeping is k s.notes stands refl refl refl is.noted.linked).after

pub returns-clause-room : goal.returns-clause-room
returns-clause-room g c =
    let s = c.self.inside in
    let k = g.S.Holds.known s.seat in
    let is = c.self.invariant.3 in
    let used : c.in_use.result ≡ count_by is_word s.words = c.in_use.ensures in
    let counted : used_slots (content_of k s.notes.marks s.sweeping) ≡ count_by is_word s.words = seeking.count_held k.content s.words is_used is.noted.words_are is.noted.long in
    let all : c.limit.result ≡ k.content.limit = c.limit.ensures in
    let long : length s.words ≡ k.content.limit = is.noted.long in
    let few = count_by-le-length is_word s.words in
    let done : c.limit.result - c.in_use.result + used_slots (content_of k s.notes.marks s.sweeping) ≡ k.content.limit = omega (arith, used, counted, all, long, few) in
    subst (λ x. c.limit.result - c.in_use.result + used_slots (content_of (g.S.Holds.known x.0) x.1 x.2) ≡ (content_of (g.S.Holds.known x.0) x.1 x.2).limit) c.self.view_is done
