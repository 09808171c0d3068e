-- A held store after a slot was marked or pinned, or a sweep began or ended.
use Rattle.std.proofs.Common.{◌≡◌, ℕ, zero, ◌<◌, inl, inr, Bool, true, false, List, length, set, replicate, Some, None, refl, ap, sym, ◌∙◌, subst, arith}
use Rattle.std.proofs.lemmas.Bool.{cases_lt}
use Rattle.std.specs.Prelude.{◌==◌, if◌then◌else◌}
use Rattle.std.proofs.lemmas.List.{length-set, length-replicate, get_or_past}
use Rattle.node_store.specs.Contents.{IsUsed}
use Rattle.node_store.specs.Changes.{After, with_mark, with_pin}
use Rattle.node_store.proofs.Marking.{held_sound}
use Rattle.held_slots.specs.Linked.{IsLinkedTo}
use Rattle.held_slots.specs.Notes.{Chain, Notes, flag}
use Rattle.node_slots.specs.Stores.{slots, count_at, generation_at, is_set}
use Rattle.node_slots.specs.Held.{Alone, Held, IsHeld, held_view}
use Rattle.node_slots.proofs.HeldLaws.{after_seen}
use Rattle.node_slots.proofs.Holding.{at_set, flags_put, no_flags}

-- the store with other marks, pins and links
abbrev pub with_notes : Held → Notes → Held
with_notes q n = record { plain = record q.plain { marks = n.marks; pins = n.pins }; half = q.half; chain = n.chain }

module _ (q : Held) (is : IsHeld q) where
  -- nothing but flags is another
  pub flagged_held : (marks pins : List ℕ) (on : Bool) → length marks ≡ length q.plain.marks → length pins ≡ length q.plain.pins → ((s : ℕ) → slots q.plain s ≡ None → is_set pins s ≡ false)
      → IsHeld (record q { plain = record q.plain { marks = marks; pins = pins; sweeping = on } })
  flagged_held marks pins on long short free = record {
    sound = held_sound (held_view q) (count_at q.plain) (generation_at q.plain) (is_set marks) (is_set pins) on is.sound is.sound.few_counts is.sound.uncounted free;
    variables_stand = is.variables_stand;
    elements_stand = is.elements_stand;
    permanent = record { constants = is.permanent.constants; projections = is.permanent.projections };
    few_variables = is.few_variables;
    few_elements = is.few_elements;
    room = is.room;
    counted = is.counted;
    marks_fit = long ∙ is.marks_fit;
    pins_fit = short ∙ is.pins_fit;
    nothing_due = is.nothing_due;
    forgotten = is.forgotten;
    linked = is.linked;
  }

-- other links that hold
relinked : (h : Held) (chain : Chain) → IsHeld h → (IsLinkedTo (slots h.plain) h.chain → IsLinkedTo (slots h.plain) chain) → IsHeld (record h { chain = chain })
relinked h chain is linked = record {
  sound = is.sound;
  variables_stand = is.variables_stand;
  elements_stand = is.elements_stand;
  permanent = is.permanent;
  few_variables = is.few_variables;
  few_elements = is.few_elements;
  room = is.room;
  counted = is.counted;
  marks_fit = is.marks_fit;
  pins_fit = is.pins_fit;
  nothing_due = is.nothing_due;
  forgotten = is.forgotten;
  linked = linked is.linked;
}

-- a slot in use has a flag, and so has one that is pinned
module _ (q : Held) (is : IsHeld q) (slot : ℕ) where
  pub used_within : IsUsed (held_view q) slot → slot < length q.plain.words
  used_within used = is.sound.within slot used

  pub pinned_within : (held_view q).pinned slot ≡ true → slot < length q.plain.words
  pinned_within on = elim (cases_lt slot (length q.plain.words)) [
    | inl lt ↦ lt
    | inr ge ↦ (
        let f = is.pins_fit in
        let none : is_set q.plain.pins slot ≡ false = ap (λ x. x == 1) (get_or_past q.plain.pins slot 0 (omega (arith, ge, f))) in
        let e : true ≡ false = sym on ∙ none in cc)
  ]

pub used_on : (q : Held) (slot : ℕ) (on : Bool) → IsUsed (held_view q) slot → slots q.plain slot ≡ None → on ≡ false
used_on q slot on used free = let e : None ≡ Some used.0 = sym free ∙ used.1 in cc

module _ (q p : Held) (same : q ≡ p) (is : IsHeld q) where
  module _ (slot : ℕ) (on : Bool) (n : Notes) where
    pub marked_held : n ≡ record { marks = set q.plain.marks slot (flag on); pins = q.plain.pins; chain = q.chain } → IsHeld (with_notes q n)
    marked_held e = subst (λ x. IsHeld (with_notes q x)) (sym e)
        (flagged_held q is (set q.plain.marks slot (flag on)) q.plain.pins q.plain.sweeping (length-set q.plain.marks slot (flag on)) refl is.sound.unpinned)

    pub marked_after : slot < length p.plain.words → n ≡ record { marks = set q.plain.marks slot (flag on); pins = q.plain.pins; chain = q.chain }
        → After Alone (with_mark (held_view p) slot on) (held_view (with_notes q n))
    marked_after within e = subst (λ (x : Held). slot < length x.plain.words → After Alone (with_mark (held_view x) slot on) (held_view (with_notes q n))) same
        (λ inside. after_seen (with_mark (held_view q) slot on) (held_view (with_notes q n))
        (ap (λ x. held_view (with_notes q x)) e ∙ ap (λ m. record (held_view q) { marked = m }) (flags_put q.plain.marks slot on (let f = is.marks_fit in omega (arith, inside, f)) (set q.plain.marks slot (flag on)) refl)) (marked_held e).sound) within

    pub pinned_held : slot < length q.plain.words → (slots q.plain slot ≡ None → on ≡ false) → n ≡ record { marks = q.plain.marks; pins = set q.plain.pins slot (flag on); chain = q.chain } → IsHeld (with_notes q n)
    pinned_held within off e = subst (λ x. IsHeld (with_notes q x)) (sym e)
        (flagged_held q is q.plain.marks (set q.plain.pins slot (flag on)) q.plain.sweeping refl (length-set q.plain.pins slot (flag on)) (λ s free.
        at_set (λ x. (x == 1) ≡ false) q.plain.pins slot (flag on) s (let f = is.pins_fit in omega (arith, within, f))
        (λ here. ap (λ b. flag b == 1) (off (ap (slots q.plain) (sym here) ∙ free))) (λ ne. is.sound.unpinned s free)))

    pub pinned_after : slot < length q.plain.words → (slots q.plain slot ≡ None → on ≡ false) → n ≡ record { marks = q.plain.marks; pins = set q.plain.pins slot (flag on); chain = q.chain }
        → After Alone (with_pin (held_view p) slot on) (held_view (with_notes q n))
    pinned_after within off e = subst (λ (x : Held). After Alone (with_pin (held_view x) slot on) (held_view (with_notes q n))) same
        (after_seen (with_pin (held_view q) slot on) (held_view (with_notes q n))
        (ap (λ x. held_view (with_notes q x)) e ∙ ap (λ m. record (held_view q) { pinned = m }) (flags_put q.plain.pins slot on (let f = is.pins_fit in omega (arith, within, f)) (set q.plain.pins slot (flag on)) refl)) (pinned_held within off e).sound)

  -- a sweep began: no slot is marked
  module _ (n : Notes) (e : n ≡ record { marks = replicate (length q.plain.marks) 0; pins = q.plain.pins; chain = q.chain }) where
    abbrev begun : Notes → Held
    begun x = record q { plain = record q.plain { marks = x.marks; pins = x.pins; sweeping = true }; chain = x.chain }

    begun_held : IsHeld (begun n)
    begun_held = subst (λ x. IsHeld (begun x)) (sym e) (flagged_held q is (replicate (length q.plain.marks) zero) q.plain.pins true (length-replicate (length q.plain.marks) zero) refl is.sound.unpinned)

    begun_after : After Alone (record (held_view p) { sweeping = true; marked = λ s. false }) (held_view (begun n))
    begun_after = subst (λ (x : Held). After Alone (record (held_view x) { sweeping = true; marked = λ s. false }) (held_view (begun n))) same
        (after_seen (record (held_view q) { sweeping = true; marked = λ s. false }) (held_view (begun n))
        (ap (λ x. held_view (begun x)) e ∙ ap (λ m. record (held_view q) { sweeping = true; marked = m }) (no_flags (replicate (length q.plain.marks) zero) (length q.plain.marks) refl)) begun_held.sound)

    -- and links that may lead through freed slots are given up
    module _ (m : Notes) (is_m : m ≡ record n { chain = record n.chain { linked = if n.chain.stale then false else n.chain.linked } }) where
      still : (stale on : Bool) → (if stale then false else on) ≡ true → on ≡ true
      still true on e = let lies : false ≡ true = e in cc
      still false on e = e

      pub unlinked_held : IsHeld (begun m)
      unlinked_held = subst (λ x. IsHeld (begun x)) (sym is_m)
          (relinked (begun n) (record n.chain { linked = if n.chain.stale then false else n.chain.linked }) begun_held (λ linked on. linked (still n.chain.stale n.chain.linked on)))

      pub unlinked_after : After Alone (record (held_view p) { sweeping = true; marked = λ s. false }) (held_view (begun m))
      unlinked_after = subst (λ x. After Alone (record (held_view p) { sweeping = true; marked = λ s. false }) (held_view (begun x))) (sym is_m) begun_after

  pub ended_held : IsHeld (record q { plain = record q.plain { sweeping = false } })
  ended_held = flagged_held q is q.plain.marks q.plain.pins false refl refl is.sound.unpinned

  pub ended_after : After Alone (record (held_view p) { sweeping = false }) (held_view (record q { plain = record q.plain { sweeping = false } }))
  ended_after = subst (λ (x : Held). After Alone (record (held_view x) { sweeping = false }) (held_view (record q { plain = record q.plain { sweeping = false } }))) same
      (after_seen (record (held_view q) { sweeping = false }) (held_view (record q { plain = record q.plain { sweeping = false } })) refl ended_held.sound)
