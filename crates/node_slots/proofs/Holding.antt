-- The counts, marks and pins of a store's slots, after its calls.
use Rattle.std.proofs.Common.{◌≡◌, ◌≢◌, ℕ, zero, ◌<◌, inl, inr, Bool, true, false, List, length, get_or, set, replicate, None, refl, ap, sym, ◌∙◌, subst, arith}
use Rattle.std.specs.Prelude.{◌-◌, ◌^◌, ◌==◌}
use Rattle.std.proofs.lemmas.Bool.{cases_eq, cases_lt}
use Rattle.std.proofs.lemmas.List.{length-set, length-replicate, get_or_past, get_or-replicate, get_or-set_same, get_or-set_other}
use Rattle.edge_bits.specs.Reading.{slots_of}
use Rattle.function_laws.proofs.ValueLemmas.{everywhere}
use Rattle.handle_count.specs.CountWords.{count_of}
use Rattle.node_store.specs.Changes.{put_at}
use Rattle.node_store.proofs.Rewriting.{put_at-same, put_at-other}
use Rattle.held_slots.specs.Notes.{flag}
use Rattle.node_slots.specs.Stores.{Plain, slots, count_at, is_set, AreHolds}

-- a list of zeros is zero everywhere
zero_at : (n s : ℕ) → get_or (replicate n zero) s zero ≡ zero
zero_at n s = elim (cases_lt s n) [
  | inl lt ↦ get_or-replicate n s zero zero lt
  | inr ge ↦ get_or_past (replicate n zero) s zero (let l = length-replicate n zero in omega (arith, ge, l))
]

pub no_flag : (flags : List ℕ) (n s : ℕ) → flags ≡ replicate n 0 → is_set flags s ≡ false
no_flag flags n s is = ap (λ xs. get_or xs s 0 == 1) is ∙ ap (λ x. x == 1) (zero_at n s)

pub no_flags : (flags : List ℕ) (n : ℕ) → flags ≡ replicate n 0 → is_set flags ≡ (λ _. false)
no_flags flags n is = everywhere (is_set flags) (λ _. false) (λ s. no_flag flags n s is)

pub opening_holds : (p : Plain) (limit : ℕ) → length p.words ≡ limit → p.counts ≡ replicate limit 0 → p.marks ≡ replicate limit 0 → p.pins ≡ replicate limit 0 → AreHolds p
opening_holds p limit words counts marks pins =
    let long = length-replicate limit zero in
    let none : (s : ℕ) → count_at p s ≡ 0 = λ s. ap (λ cs. count_of (get_or cs s 0)) counts ∙ ap count_of (zero_at limit s) in
    record {
      counted = ap length counts ∙ long ∙ sym words;
      marks_fit = ap length marks ∙ long ∙ sym words;
      pins_fit = ap length pins ∙ long ∙ sym words;
      few = λ s. subst (λ n. n < 2 ^ 32 - 1) (sym (none s)) (omega arith);
      uncounted = λ s free. none s;
      unpinned = λ s free. no_flag p.pins limit s pins;
    }

-- what is so of the word that was written, and of the others
pub at_set : (P : ℕ → Type 0) (xs : List ℕ) (slot x s : ℕ) → slot < length xs → (s ≡ slot → P x) → (s ≢ slot → P (get_or xs s 0)) → P (get_or (set xs slot x) s 0)
at_set P xs slot x s within here other = elim (cases_eq s slot) [
  | inl e ↦ subst P (sym (ap (λ t. get_or (set xs slot x) t 0) e ∙ get_or-set_same xs slot x 0 within)) (here e)
  | inr ne ↦ subst P (sym (get_or-set_other xs slot s x 0 ne)) (other ne)
]

-- a count word was written
pub recounted_holds : (p : Plain) → AreHolds p → (slot word : ℕ) → slot < length p.words → (slots p slot ≡ None → ⊥) → count_of word < 2 ^ 32 - 1
    → (cs : List ℕ) → cs ≡ set p.counts slot word → AreHolds (record p { counts = cs })
recounted_holds p h slot word within used few cs is = subst (λ xs. AreHolds (record p { counts = xs })) (sym is) (record {
  counted = length-set p.counts slot word ∙ h.counted;
  marks_fit = h.marks_fit;
  pins_fit = h.pins_fit;
  few = λ s. at_set (λ x. count_of x < 2 ^ 32 - 1) p.counts slot word s inside (λ e. few) (λ ne. h.few s);
  uncounted = λ s free. at_set (λ x. count_of x ≡ 0) p.counts slot word s inside (λ e. absurd (used (ap (slots p) (sym e) ∙ free))) (λ ne. h.uncounted s free);
  unpinned = h.unpinned;
})
  where
    inside : slot < length p.counts
    inside = let c = h.counted in omega (arith, within, c)

-- flags were written
pub marked_holds : (p : Plain) → AreHolds p → (marks : List ℕ) (on : Bool) (memo : List ℕ) → length marks ≡ length p.marks → AreHolds (record p { marks = marks; sweeping = on; memo = memo })
marked_holds p h marks on memo long = record {
  counted = h.counted;
  marks_fit = long ∙ h.marks_fit;
  pins_fit = h.pins_fit;
  few = h.few;
  uncounted = h.uncounted;
  unpinned = h.unpinned;
}

pub pinned_holds : (p : Plain) → AreHolds p → (slot : ℕ) (on : Bool) → slot < length p.words → (slots p slot ≡ None → ⊥)
    → (pins : List ℕ) → pins ≡ set p.pins slot (flag on) → AreHolds (record p { pins = pins })
pinned_holds p h slot on within used pins is = subst (λ xs. AreHolds (record p { pins = xs })) (sym is) (record {
  counted = h.counted;
  marks_fit = h.marks_fit;
  pins_fit = length-set p.pins slot (flag on) ∙ h.pins_fit;
  few = h.few;
  uncounted = h.uncounted;
  unpinned = λ s free. at_set (λ x. (x == 1) ≡ false) p.pins slot (flag on) s (let f = h.pins_fit in omega (arith, within, f)) (λ e. absurd (used (ap (slots p) (sym e) ∙ free))) (λ ne. h.unpinned s free);
})

-- the flags of all slots, after one was written
pub flags_put : (flags : List ℕ) (slot : ℕ) (on : Bool) → slot < length flags → (new : List ℕ) → new ≡ set flags slot (flag on) → is_set new ≡ put_at (is_set flags) slot on
flags_put flags slot on within new is = ap is_set is ∙ everywhere (is_set (set flags slot (flag on))) (put_at (is_set flags) slot on) (λ s. elim (cases_eq s slot) [
  | inl e ↦ ap (is_set (set flags slot (flag on))) e ∙ ap (λ x. x == 1) (get_or-set_same flags slot (flag on) 0 within) ∙ told on ∙ sym (put_at-same (is_set flags) slot on) ∙ ap (put_at (is_set flags) slot on) (sym e)
  | inr ne ↦ ap (λ x. x == 1) (get_or-set_other flags slot s (flag on) 0 ne) ∙ sym (put_at-other (is_set flags) slot s on ne)
])
  where
    told : (on : Bool) → (flag on == 1) ≡ on
    told true = refl
    told false = refl

-- the slot was freed
pub freed_holds : (p : Plain) → AreHolds p → (slot word : ℕ) (ws cs memo : List ℕ) → slot < length p.words → length ws ≡ length p.words → cs ≡ set p.counts slot word
    → count_of word ≡ count_at p slot → count_at p slot ≡ 0 → is_set p.pins slot ≡ false → ((s : ℕ) → s ≢ slot → slots_of ws s ≡ slots p s)
    → AreHolds (record p { words = ws; counts = cs; due = None; memo = memo })
freed_holds p h slot word ws cs memo within long is same none unpinned other =
    subst (λ xs. AreHolds (record p { words = ws; counts = xs; due = None; memo = memo })) (sym is) (record {
      counted = length-set p.counts slot word ∙ h.counted ∙ sym long;
      marks_fit = h.marks_fit ∙ sym long;
      pins_fit = h.pins_fit ∙ sym long;
      few = λ s. at_set (λ x. count_of x < 2 ^ 32 - 1) p.counts slot word s inside (λ e. subst (λ n. n < 2 ^ 32 - 1) (sym (same ∙ none)) (omega arith)) (λ ne. h.few s);
      uncounted = λ s free. at_set (λ x. count_of x ≡ 0) p.counts slot word s inside (λ e. same ∙ none) (λ ne. h.uncounted s (sym (other s ne) ∙ free));
      unpinned = λ s free. elim (cases_eq s slot) [
        | inl e ↦ ap (is_set p.pins) e ∙ unpinned
        | inr ne ↦ h.unpinned s (sym (other s ne) ∙ free)
      ];
    })
  where
    inside : slot < length p.counts
    inside = let c = h.counted in omega (arith, within, c)

-- a word came to stand in a free slot
pub written_holds : (p : Plain) → AreHolds p → (ws : List ℕ) → length ws ≡ length p.words → ((s : ℕ) → slots_of ws s ≡ None → slots p s ≡ None) → AreHolds (record p { words = ws })
written_holds p h ws long free = record {
  counted = h.counted ∙ sym long;
  marks_fit = h.marks_fit ∙ sym long;
  pins_fit = h.pins_fit ∙ sym long;
  few = h.few;
  uncounted = λ s none. h.uncounted s (free s none);
  unpinned = λ s none. h.unpinned s (free s none);
}

-- nothing but what says nothing of counts, marks and pins is another
pub same_holds : (p : Plain) → AreHolds p → (q : Plain) → q.words ≡ p.words → q.counts ≡ p.counts → q.marks ≡ p.marks → q.pins ≡ p.pins → AreHolds q
same_holds p h q words counts marks pins = record {
  counted = ap length counts ∙ h.counted ∙ sym (ap length words);
  marks_fit = ap length marks ∙ h.marks_fit ∙ sym (ap length words);
  pins_fit = ap length pins ∙ h.pins_fit ∙ sym (ap length words);
  few = λ s. subst (λ (xs : List ℕ). count_of (get_or xs s 0) < 2 ^ 32 - 1) (sym counts) (h.few s);
  uncounted = λ s none. ap (λ (xs : List ℕ). count_of (get_or xs s 0)) counts ∙ h.uncounted s (ap (λ (xs : List ℕ). slots_of xs s) (sym words) ∙ none);
  unpinned = λ s none. ap (λ (xs : List ℕ). is_set xs s) pins ∙ h.unpinned s (ap (λ (xs : List ℕ). slots_of xs s) (sym words) ∙ none);
}
