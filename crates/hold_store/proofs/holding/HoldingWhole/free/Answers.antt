use Rattle.std.proofs.Common.{◌≡◌, ℕ, ◌<◌, false, List, Option, None, refl, ap, sym, ◌∙◌, subst}
use Rattle.node_store.specs.Changes.{After}
use Rattle.hold_store.specs.Held.{Knowledge, ZeroStays}
use Rattle.hold_store.specs.Noted.{content_of}
use Rattle.hold_store.proofs.Calls as calls
use Rattle.hold_store.proofs.Wholes as wholes
use Rattle.std.proofs.Common.{get_or}
use Rattle.edge_bits.specs.Reading.{slots_of}
use Rattle.edge_bits.specs.Words.{unpack_of}
use Rattle.held_slots.specs.Linked.{variable_of}
use Rattle.node_store.specs.Changes.{CanFree, without}
use Rattle.hold_store.specs.Noted.{IsCleared}
use Rattle.hold_store.proofs.holding.HoldingWhole.free.Goals as goal

-- what stands in the slot at first
was_in : (k : Knowledge) (words : List ℕ) (slot word : ℕ) (was : Option ℕ) → slots_of words ≡ k.content.word → word ≡ get_or words slot 0 → was ≡ variable_of (unpack_of word) → variable_of (slots_of words slot) ≡ was
was_in k words slot word was are read is = ap (λ b. variable_of (unpack_of b)) (sym read) ∙ sym is

pub free_slot-requires-clause-ready : goal.free_slot-requires-clause-ready
free_slot-requires-clause-ready g c = c.self.invariant.3.ready

pub free_slot-requires-clause-forgotten : goal.free_slot-requires-clause-forgotten
free_slot-requires-clause-forgotten g c =
    let s = c.self.inside in
    let k = g.S.Holds.known s.seat in
    let is = c.self.invariant.3 in
    let stands = g.met.S.Holds.stands s.seat c.self.invariant.0 in
    let on = ap (λ x. x.2) c.self.view_is ∙ c.requires.sweeping in
    ((λ _. false), subst (λ b. IsCleared b k.hand.named) on is.memo, refl)

pub free_slot-requires-clause-dead : goal.free_slot-requires-clause-dead
free_slot-requires-clause-dead g c =
    let s = c.self.inside in
    let k = g.S.Holds.known s.seat in
    let is = c.self.invariant.3 in
    let stands = g.met.S.Holds.stands s.seat c.self.invariant.0 in
    calls.is_dead k s.notes.marks s.sweeping c.args.slot (subst (λ x. CanFree (content_of (g.S.Holds.known x.0) x.1 x.2) c.args.slot) (sym c.self.view_is) c.requires)

pub set-requires : goal.set-requires
set-requires g c =
    let s = c.self.inside in
    let k = g.S.Holds.known s.seat in
    let is = c.self.invariant.3 in
    let stands = g.met.S.Holds.stands s.seat c.self.invariant.0 in
    let can = subst (λ x. CanFree (content_of (g.S.Holds.known x.0) x.1 x.2) c.args.slot) (sym c.self.view_is) c.requires in
    subst (λ n. c.args.slot < n) (sym is.noted.long) (stands.sound.within c.args.slot can.used)

pub freed-requires : goal.freed-requires
freed-requires g c =
    let s = c.self.inside in
    let k = g.S.Holds.known s.seat in
    let is = c.self.invariant.3 in
    let stands = g.met.S.Holds.stands s.seat c.self.invariant.0 in
    let can = subst (λ x. CanFree (content_of (g.S.Holds.known x.0) x.1 x.2) c.args.slot) (sym c.self.view_is) c.requires in
    subst (λ n. c.args.slot < n) (sym is.noted.marks_fit) (stands.sound.within c.args.slot can.used)

pub invariant_of-self : goal.invariant_of-self
invariant_of-self g c =
    let s = c.self.inside in
    let k = g.S.Holds.known s.seat in
    let is = c.self.invariant.3 in
    let stands = g.met.S.Holds.stands s.seat c.self.invariant.0 in
    let can = subst (λ x. CanFree (content_of (g.S.Holds.known x.0) x.1 x.2) c.args.slot) (sym c.self.view_is) c.requires in
    let within = stands.sound.within c.args.slot can.used in
    let e = c.free_slot.ensures in
    let f = c.freed.ensures in
    let linked = f.linked (slots_of s.words) (slots_of c.set.new.self) is.noted.linked (wholes.changed_at k s.words s.notes is.noted c.set.new.self c.args.slot 0 c.set.ensures)
    (was_in k s.words c.args.slot c.word.result c.variable_of-was.result is.noted.words_are c.word.ensures c.variable_of-was.ensures) (wholes.set_there k s.words s.notes is.noted c.set.new.self c.args.slot 0 within c.set.ensures) in (
      e.own,
      e.home.0 ∙ c.self.invariant.1,
      e.home.1 ∙ c.self.invariant.2,
      (calls.writes k s.words s.notes s.sweeping is (without k.content c.args.slot) (g.S.Holds.known c.free_slot.new.seat) c.set.new.self c.freed.new.self c.args.slot 0 None (g.met.S.Holds.stands c.free_slot.new.seat e.own) e.ready e.named e.freed e.counts
          refl refl refl within c.set.ensures refl f.marks f.pins linked).holding,
    )

pub returns : goal.returns
returns g c =
    let s = c.self.inside in
    let k = g.S.Holds.known s.seat in
    let is = c.self.invariant.3 in
    let stands = g.met.S.Holds.stands s.seat c.self.invariant.0 in
    let can = subst (λ x. CanFree (content_of (g.S.Holds.known x.0) x.1 x.2) c.args.slot) (sym c.self.view_is) c.requires in
    let within = stands.sound.within c.args.slot can.used in
    let e = c.free_slot.ensures in
    let f = c.freed.ensures in
    let linked = f.linked (slots_of s.words) (slots_of c.set.new.self) is.noted.linked (wholes.changed_at k s.words s.notes is.noted c.set.new.self c.args.slot 0 c.set.ensures)
    (was_in k s.words c.args.slot c.word.result c.variable_of-was.result is.noted.words_are c.word.ensures c.variable_of-was.ensures) (wholes.set_there k s.words s.notes is.noted c.set.new.self c.args.slot 0 within c.set.ensures) in
    subst (λ x. After ZeroStays (without (content_of (g.S.Holds.known x.0) x.1 x.2) c.args.slot) (content_of (g.S.Holds.known c.free_slot.new.seat) c.freed.new.self.marks s.sweeping)) c.self.view_is
    (calls.writes k s.words s.notes s.sweeping is (without k.content c.args.slot) (g.S.Holds.known c.free_slot.new.seat) c.set.new.self c.freed.new.self c.args.slot 0 None (g.met.S.Holds.stands c.free_slot.new.seat e.own) e.ready e.named e.freed e.counts
    refl refl refl within c.set.ensures refl f.marks f.pins linked).after
