-- Steps of the holder of the order on count words: a pin more or less, a count that is found, another generation.
use Rattle.std.proofs.Common.{◌≡◌, ◌≢◌, ◌⊎◌, ⊎_elim, inl, inr, ℕ, suc, ◌+◌, ◌-◌, ◌%◌, ◌^◌, ◌<◌, ◌≤◌, ◌==◌, cond, Bool, true, false, true≢false, List, [], ◌∷◌, set, Some, None, refl, ap, sym, ◌∙◌, subst, arith, eq-eqb, ne_eqb}
use Rattle.std.specs.Prelude as std
use Rattle.std.proofs.lemmas.Bool.{cases_eq}
use mathlib.Core.Logic.{dite}
use mathlib.Core.Option.{none, some, some-injective}
use native.Mathlib.Decide.{ℕ_discrete}
use lib.ListN.{get_elem?}
use lib.Seq.{set-get_or}
use Rattle.atomic_table.specs.Table.{State, Me, step, keeps, Allows}
use Rattle.atomic_table.proofs.Lists.{at_map}
use Rattle.edge_bits.specs.declared.words.Word.{Word}
use Rattle.function_laws.specs.SessionEntries.{Each}
use Rattle.handle_count.specs.CountWords.{count_of, generation_of}
use Rattle.node_store.specs.Contents.{IsSound, IsUsed}
use Rattle.node_store.specs.Changes.{put_at}
use Rattle.node_store.proofs.Rewriting.{put_at-same, put_at-other}
use Rattle.words_rule.proofs.OneLoads.{finds_told}
use Rattle.free_list.specs.FreeSlots.{FreeSlots}
use Rattle.words_rule.specs.declared.cell.Cell.{Cell}
use Rattle.words_rule.specs.declared.view.Hold.TheVariants.{Holding}
use Rattle.words_rule.specs.declared.view.SlotCount.{SlotCount}
use Rattle.words_rule.specs.declared.view.SlotGeneration.{SlotGeneration}
use Rattle.words_rule.specs.declared.view.View.{View}
use Rattle.words_rule.specs.HeldContents.{KnowsAll, ages_without, held_content, noted_age, noted_count, numbers_without, or_zero, with_age, with_count}
use Rattle.words_rule.specs.Holders.{IsAge}
use Rattle.words_rule.specs.HolderPlays.{HasFound, HasPinned, HasRenewed, count_found, generation_stored, slot_pinned, slot_unpinned}
use Rattle.words_rule.specs.Known.{is_among}
use Rattle.words_rule.specs.Layout.{count_at, words_of}
use Rattle.words_rule.specs.Phase.{footing_of}
use Rattle.words_rule.specs.OneSession.{count_by, storing_count}
use Rattle.words_rule.specs.Rule.{Parts, Rule, footings_in, tallies_in}
use Rattle.words_rule.proofs.Draws.{one_still}
use Rattle.words_rule.specs.Shapes.{shape_in}
use Rattle.words_rule.specs.Tallies.{one_if, refs, tally_of, times}
use Rattle.words_rule.proofs.CountSteps.{down_count, down_generation, down_word, ends, few, held_some, home, is_count, n, new_count, others, still, up_count, up_generation, up_word, ws}
use Rattle.words_rule.proofs.Generating.{parts_generation}
use Rattle.words_rule.proofs.HeldNotes.{never_among}
use Rattle.words_rule.proofs.LearnsAll.{parts_aging, sound_counted}
use Rattle.words_rule.proofs.Lists.{set_at}
use Rattle.words_rule.proofs.Phases.{one_order}
use Rattle.words_rule.proofs.Pinning.{parts_own, parts_pin, parts_unpin_any}
use Rattle.words_rule.proofs.Tabling.{set_set}
use Rattle.words_rule.proofs.Tallying.{total-has}
use Rattle.words_rule.proofs.Working.{rule_work}

-- a function that is another, but at one number
put_is : {A : Type 0} (f g : ℕ → A) (q : ℕ) (x : A) → g q ≡ x → ((t : ℕ) → t ≢ q → g t ≡ f t) → g ≡ put_at f q x
put_is f g q x here else = λ i t. at t i
  where
    at : (t : ℕ) → g t ≡ put_at f q x t
    at t = elim (cases_eq t q) [
      | inl e ↦ ap g e ∙ here ∙ sym (put_at-same f q x) ∙ ap (put_at f q x) (sym e)
      | inr ne ↦ else t ne ∙ sym (put_at-other f q t x ne)
    ]

-- numbers in a list, and how often they stand there
among_times : (l : List ℕ) (s : ℕ) → is_among l s ≡ true → 0 < times s l
among_times [] s is = absurd (true≢false (sym is))
among_times (x ∷ l) s is = elim (cases_eq s x) [
  | inl e ↦ one_more (one_if (x == s)) (times s l) (ap one_if (eq-eqb x s (sym e)))
  | inr ne ↦ some_more (one_if (x == s)) (times s l) (among_times l s (sym (ap (λ c. cond c true (is_among l s)) (ne_eqb s x ne)) ∙ is))
]
  where
    one_more : (a b : ℕ) → a ≡ 1 → 0 < a + b
    one_more a b e = omega (arith, e)

    some_more : (a b : ℕ) → 0 < b → 0 < a + b
    some_more a b lt = omega (arith, lt)

not_among : (l : List ℕ) (s : ℕ) → times s l ≡ 0 → is_among l s ≡ false
not_among l s no_times = by (is_among l s) refl
  where
    by : (b : Bool) → is_among l s ≡ b → is_among l s ≡ false
    by false is = is
    by true is = absurd (let some_times = among_times l s is in omega (arith, some_times, no_times))

added : (a b c : ℕ) → a ≡ 0 → b ≡ c → a + b ≡ c
added a b c x y = omega (arith, x, y)

without_here : (s : ℕ) (l : List ℕ) → times s (numbers_without s l) ≡ 0
without_here s [] = refl
without_here s (x ∷ l) = by (x == s) refl (without_here s l)
  where
    by : (c : Bool) → (x == s) ≡ c → times s (numbers_without s l) ≡ 0 → times s (cond (x == s) (numbers_without s l) (x ∷ numbers_without s l)) ≡ 0
    by true e rest = ap (λ c. times s (cond c (numbers_without s l) (x ∷ numbers_without s l))) e ∙ rest
    by false e rest = ap (λ c. times s (cond c (numbers_without s l) (x ∷ numbers_without s l))) e ∙ added (one_if (x == s)) (times s (numbers_without s l)) 0 (ap one_if e) rest

without_else : (s t : ℕ) (l : List ℕ) → t ≢ s → times t (numbers_without s l) ≡ times t l
without_else s t [] ne = refl
without_else s t (x ∷ l) ne = elim (cases_eq x s) [
  | inl e ↦ ap (λ c. times t (cond c (numbers_without s l) (x ∷ numbers_without s l))) (eq-eqb x s e) ∙ without_else s t l ne ∙ sym (added (one_if (x == t)) (times t l) (times t l) (none_here e) refl)
  | inr off ↦ ap (λ c. times t (cond c (numbers_without s l) (x ∷ numbers_without s l))) (ne_eqb x s off) ∙ ap (λ m. one_if (x == t) + m) (without_else s t l ne)
]
  where
    none_here : x ≡ s → one_if (x == t) ≡ 0
    none_here e = ap one_if (ne_eqb x t (λ same. ne (sym same ∙ e)))

among_else : (s t : ℕ) (l : List ℕ) → t ≢ s → is_among (numbers_without s l) t ≡ is_among l t
among_else s t [] ne = refl
among_else s t (x ∷ l) ne = elim (cases_eq x s) [
  | inl e ↦ ap (λ c. is_among (cond c (numbers_without s l) (x ∷ numbers_without s l)) t) (eq-eqb x s e) ∙ among_else s t l ne ∙ sym (ap (λ c. cond c true (is_among l t)) (ne_eqb t x (λ same. ne (same ∙ e))))
  | inr off ↦ ap (λ c. is_among (cond c (numbers_without s l) (x ∷ numbers_without s l)) t) (ne_eqb x s off) ∙ ap (λ b. cond (t == x) true b) (among_else s t l ne)
]

-- a slot that stands once among the pins is the one that goes
once_gone : (s : ℕ) (l : List ℕ) → is_among l s ≡ true → times s l ≤ 1 → (j : ℕ) → times j l ≡ one_if (s == j) + times j (numbers_without s l)
once_gone s l is once j = elim (cases_eq s j) [
  | inl e ↦ at_here e (among_times l s is)
  | inr ne ↦ sym (without_else s j l (λ e. ne (sym e))) ∙ sym (added (one_if (s == j)) (times j (numbers_without s l)) (times j (numbers_without s l)) (ap one_if (ne_eqb s j ne)) refl)
]
  where
    at_here : s ≡ j → 0 < times s l → times j l ≡ one_if (s == j) + times j (numbers_without s l)
    at_here e some_times =
        let one : one_if (s == j) ≡ 1 = ap one_if (eq-eqb s j e) in
        let gone : times j (numbers_without s l) ≡ 0 = ap (λ t. times t (numbers_without s l)) (sym e) ∙ without_here s l in
        let same : times j l ≡ times s l = ap (λ t. times t l) (sym e) in omega (arith, one, gone, same, some_times, once)

-- a noted generation is one of those that were noted
age_true : (P : SlotGeneration → Type 0) (l : List SlotGeneration) → Each P l → (s g : ℕ) → noted_age l s ≡ Some g → P (record { slot = s; generation = g })
age_true P [] all s g e = absurd (no_number g e)
  where
    no_number : (g : ℕ) → ◌≡◌ {A = std.Option ℕ} None (Some g) → ⊥
    no_number g e = cc
age_true P (note ∷ l) all s g e = elim (cases_eq note.slot s) [
  | inl is ↦ subst P (λ i. record { slot = is i; generation = some_number note.generation g (sym (ap (λ c. cond c (Some note.generation) (noted_age l s)) (eq-eqb note.slot s is)) ∙ e) i }) all.0
  | inr ne ↦ age_true P l all.1 s g (sym (ap (λ c. cond c (Some note.generation) (noted_age l s)) (ne_eqb note.slot s ne)) ∙ e)
]
  where
    some_number : (a b : ℕ) → Some a ≡ Some b → a ≡ b
    some_number a b e = cc

ages_off : (s : ℕ) (l : List SlotGeneration) → Each (λ (g : SlotGeneration). g.slot ≢ s) (ages_without s l)
ages_off s [] = tt
ages_off s (note ∷ l) = elim (cases_eq note.slot s) [
  | inl e ↦ subst (λ c. Each (λ (g : SlotGeneration). g.slot ≢ s) (cond c (ages_without s l) (note ∷ ages_without s l))) (sym (eq-eqb note.slot s e)) (ages_off s l)
  | inr ne ↦ subst (λ c. Each (λ (g : SlotGeneration). g.slot ≢ s) (cond c (ages_without s l) (note ∷ ages_without s l))) (sym (ne_eqb note.slot s ne)) (ne, ages_off s l)
]

ages_still : (P : SlotGeneration → Type 0) (s : ℕ) (l : List SlotGeneration) → Each P l → Each P (ages_without s l)
ages_still P s [] all = tt
ages_still P s (note ∷ l) all = elim (cases_eq note.slot s) [
  | inl e ↦ subst (λ c. Each P (cond c (ages_without s l) (note ∷ ages_without s l))) (sym (eq-eqb note.slot s e)) (ages_still P s l all.1)
  | inr ne ↦ subst (λ c. Each P (cond c (ages_without s l) (note ∷ ages_without s l))) (sym (ne_eqb note.slot s ne)) (all.0, ages_still P s l all.1)
]

age_else : (s t : ℕ) (l : List SlotGeneration) → t ≢ s → noted_age (ages_without s l) t ≡ noted_age l t
age_else s t [] ne = refl
age_else s t (note ∷ l) ne = elim (cases_eq note.slot s) [
  | inl e ↦ ap (λ c. noted_age (cond c (ages_without s l) (note ∷ ages_without s l)) t) (eq-eqb note.slot s e) ∙ age_else s t l ne ∙ sym (ap (λ c. cond c (Some note.generation) (noted_age l t)) (ne_eqb note.slot t (λ same. ne (sym same ∙ e))))
  | inr off ↦ ap (λ c. noted_age (cond c (ages_without s l) (note ∷ ages_without s l)) t) (ne_eqb note.slot s off) ∙ ap (λ x. cond (note.slot == t) (Some note.generation) x) (age_else s t l ne)
]

age_here : (s g : ℕ) (l : List SlotGeneration) → noted_age (with_age s g l) s ≡ Some g
age_here s g l = ap (λ c. cond c (Some g) (noted_age (ages_without s l) s)) (eq-eqb s s refl)

age_apart : (s g t : ℕ) (l : List SlotGeneration) → t ≢ s → noted_age (with_age s g l) t ≡ noted_age l t
age_apart s g t l ne = ap (λ c. cond c (Some g) (noted_age (ages_without s l) t)) (ne_eqb s t (λ e. ne (sym e))) ∙ age_else s t l ne

count_here : (s c : ℕ) (l : List SlotCount) → noted_count (with_count s c l) s ≡ Some c
count_here s c l = ap (λ b. cond b (Some c) (noted_count l s)) (eq-eqb s s refl)

count_apart : (s c t : ℕ) (l : List SlotCount) → t ≢ s → noted_count (with_count s c l) t ≡ noted_count l t
count_apart s c t l ne = ap (λ b. cond b (Some c) (noted_count l t)) (ne_eqb s t (λ e. ne (sym e)))

module _ {S : Type 0} (board : S → List (std.Option Cell)) (free_slots : S → FreeSlots) (memo : S → List ℕ) where
  abbrev TheRule : State (std.Option S) View → Type 0
  TheRule = Rule board free_slots memo

  abbrev Sat : Type 0
  Sat = Me (std.Option S) View

  -- a view with these generations
  abbrev with_ages : View → List SlotGeneration → View
  with_ages v ages = record v { known = record v.known { ages = ages } }

  -- a view with these pins
  abbrev with_pins : View → List ℕ → View
  with_pins v pins = record v { counts = record v.counts { pins = pins } }

  -- whose count word is noted
  abbrev noting_count : ℕ → ℕ → View → View
  noting_count k word v = record v { stored = storing_count k word v.stored }

  -- a slot in use is pinned
  has_pinned : (v : View) (k word : ℕ) → KnowsAll v → IsUsed (held_content v) k → (held_content v).pinned k ≡ false → HasPinned k true (k ∷ v.counts.pins) word v (noting_count k word (with_pins v (k ∷ v.counts.pins)))
  has_pinned v k word all used unpinned =
      let w = held_content v in
      let none_yet : times k v.counts.pins ≡ 0 = never_among v.counts.pins k unpinned in record {
        is = refl;
        content = refl;
        knows = record {
          sound = sound_counted w w.count w.generation (put_at w.pinned k true) all.sound all.sound.few_counts all.sound.uncounted
              (λ s free. elim (cases_eq s k) [
                | inl e ↦ absurd (never used.0 (sym (ap w.word (sym e) ∙ free) ∙ used.1))
                | inr ne ↦ put_at-other w.pinned k s true ne ∙ all.sound.unpinned s free
              ]);
          long = all.long;
          noted = all.noted;
          beyond = all.beyond;
          aged = all.aged;
          zeros = all.zeros;
          own = λ s some_zero. more (one_if (k == s)) (times s v.counts.pins) (refs s (tally_of v)) (refs s (tally_of (with_pins v (k ∷ v.counts.pins)))) (all.own s some_zero) (more_refs s);
          once = λ s. elim (cases_eq k s) [
            | inl e ↦ (let one : one_if (k == s) ≡ 1 = ap one_if (eq-eqb k s e) in let none_here : times s v.counts.pins ≡ 0 = ap (λ t. times t v.counts.pins) (sym e) ∙ none_yet in omega (arith, one, none_here))
            | inr ne ↦ (let none_one : one_if (k == s) ≡ 0 = ap one_if (ne_eqb k s ne) in let most = all.once s in omega (arith, none_one, most))
          ];
        };
      }
    where
      never : (word : Word) → ◌≡◌ {A = std.Option Word} None (Some word) → ⊥
      never word e = cc

      more : (one pins old new : ℕ) → old ≡ pins → new ≡ old + one → new ≡ one + pins
      more one pins old new e f = omega (arith, e, f)

      more_refs : (s : ℕ) → refs s (tally_of (with_pins v (k ∷ v.counts.pins))) ≡ refs s (tally_of v) + one_if (k == s)
      more_refs s = omega arith

  -- a pin goes
  has_unpinned : (v : View) (k word : ℕ) → KnowsAll v → (held_content v).pinned k ≡ true → HasPinned k false (numbers_without k v.counts.pins) word v (noting_count k word (with_pins v (numbers_without k v.counts.pins)))
  has_unpinned v k word all pinned =
      let w = held_content v in
      let was = once_gone k v.counts.pins pinned (all.once k) in
      let same : is_among (numbers_without k v.counts.pins) ≡ put_at w.pinned k false = put_is w.pinned (is_among (numbers_without k v.counts.pins)) k false (not_among (numbers_without k v.counts.pins) k (without_here k v.counts.pins)) (λ t ne. among_else k t v.counts.pins ne) in record {
        is = refl;
        content = λ i. record w { pinned = same i };
        knows = record {
          sound = sound_counted w w.count w.generation (is_among (numbers_without k v.counts.pins)) all.sound all.sound.few_counts all.sound.uncounted
              (λ s free. elim (cases_eq s k) [
                | inl e ↦ ap (is_among (numbers_without k v.counts.pins)) e ∙ not_among (numbers_without k v.counts.pins) k (without_here k v.counts.pins)
                | inr ne ↦ among_else k s v.counts.pins ne ∙ all.sound.unpinned s free
              ]);
          long = all.long;
          noted = all.noted;
          beyond = all.beyond;
          aged = all.aged;
          zeros = all.zeros;
          own = λ s some_zero. (let o = all.own s some_zero in let x = was s in omega (arith, o, x));
          once = λ s. (let most = all.once s in let x = was s in omega (arith, most, x));
        };
      }

  pub pins_held : (slots id word : ℕ) (me : Sat) (k : ℕ) → word ≡ count_at (shape_in me.0.draws) k → me.0.draws.live ≡ true → me.0.shares.order ≡ Holding → KnowsAll me.0 → IsUsed (held_content me.0) k → (held_content me.0).pinned k ≡ false → k < me.0.draws.slots
      → Allows TheRule slots id me word (λ x. (x + 1) % 2 ^ 64) (slot_pinned (step slots word 1 0 none) me)
  pins_held slots id word me k is live holding all used unpinned inside = subst (λ (i : ℕ). Allows TheRule slots id me i (λ x. (x + 1) % 2 ^ 64) (slot_pinned (step slots i 1 0 none) me)) (sym is)
      (λ s r long at small.
      let x : ℕ = n board free_slots memo slots id me live s r at k inside in
      let c = (ws board free_slots memo slots id me live s r at k inside).count in
      let new : ℕ = (x + 1) % 2 ^ 64 in
      let few_now = few board free_slots memo slots id me live s r at k inside in
      let up : count_of (put_at c k new k) ≡ suc (count_of (c k)) = new_count board free_slots memo slots id me live s r at k inside new (suc (count_of x)) (up_count x small few_now) ∙ ap (λ (y : ℕ). suc (count_of y)) (sym (is_count board free_slots memo slots id me live s r at k inside)) in
      let w : View = with_pins me.0 (k ∷ me.0.counts.pins) in
      let noted : ℕ = count_by me.0.stored k + 1 in
      let u : View = noting_count k noted w in (
        u,
        keeps,
        tt,
        ends board free_slots memo slots id me live s r at k inside new noted (up_word x (count_by me.0.stored k) small few_now) w refl (parts_pin board free_slots memo r.shape (ws board free_slots memo slots id me live s r at k inside) (home board free_slots memo slots id me live s r at k inside) s.views r.parts id me.0 at k (put_at c k new) live holding (never_among me.0.counts.pins k unpinned) up
            (others board free_slots memo slots id me live s r at k inside new) (still board free_slots memo slots id me live s r at k inside new (up_generation x small few_now))),
        (refl, refl, (λ j same. subst (λ (i : ℕ). HasPinned i true (i ∷ me.0.counts.pins) (count_by me.0.stored i + 1) me.0 u) (let e : k ≡ j = omega (arith, same) in e) (has_pinned me.0 k noted all used unpinned))),
      ))

  pub unpins_held : (slots id word : ℕ) (me : Sat) (k : ℕ) → word ≡ count_at (shape_in me.0.draws) k → me.0.draws.live ≡ true → me.0.shares.order ≡ Holding → KnowsAll me.0 → (held_content me.0).pinned k ≡ true → k < me.0.draws.slots
      → Allows TheRule slots id me word (λ x. (x + (2 ^ 64 - 1)) % 2 ^ 64) (slot_unpinned (step slots word 1 0 none) me)
  unpins_held slots id word me k is live holding all pinned inside = subst (λ (i : ℕ). Allows TheRule slots id me i (λ x. (x + (2 ^ 64 - 1)) % 2 ^ 64) (slot_unpinned (step slots i 1 0 none) me)) (sym is)
      (λ s r long at small.
      let x : ℕ = n board free_slots memo slots id me live s r at k inside in
      let c = (ws board free_slots memo slots id me live s r at k inside).count in
      let new : ℕ = (x + (2 ^ 64 - 1)) % 2 ^ 64 in
      let pin_one = among_times me.0.counts.pins k pinned in
      let some_one = held_some board free_slots memo slots id me live s r at k inside (omega (arith, pin_one)) in
      let down : suc (count_of (put_at c k new k)) ≡ count_of (c k) = ap (λ (y : ℕ). suc (count_of y)) (put_at-same c k new) ∙ down_count x small some_one ∙ ap count_of (sym (is_count board free_slots memo slots id me live s r at k inside)) in
      let w : View = with_pins me.0 (numbers_without k me.0.counts.pins) in
      let noted : ℕ = count_by me.0.stored k - 1 in
      let u : View = noting_count k noted w in (
        u,
        keeps,
        tt,
        ends board free_slots memo slots id me live s r at k inside new noted (down_word x (count_by me.0.stored k) small some_one) w refl (parts_unpin_any board free_slots memo r.shape (ws board free_slots memo slots id me live s r at k inside) (home board free_slots memo slots id me live s r at k inside) s.views r.parts id me.0 at k (numbers_without k me.0.counts.pins) (put_at c k new) holding
            (once_gone k me.0.counts.pins pinned (all.once k)) down (others board free_slots memo slots id me live s r at k inside new) (still board free_slots memo slots id me live s r at k inside new (down_generation x small some_one))),
        (refl, refl, (λ j same. subst (λ (i : ℕ). HasPinned i false (numbers_without i me.0.counts.pins) (count_by me.0.stored i - 1) me.0 u) (let e : k ≡ j = omega (arith, same) in e) (has_unpinned me.0 k noted all pinned))),
      ))

  -- what is had of the slot, and what is counted, as numbers
  module _ (s : State (std.Option S) View) (r : TheRule s) (id : ℕ) (me : Sat) (at : get_elem? s.views id ≡ some me.0) (live : me.0.draws.live ≡ true) (holding : me.0.shares.order ≡ Holding) (all : KnowsAll me.0) (k : ℕ) (inside : k < me.0.draws.slots) (slots : ℕ) where
    abbrev found : ℕ
    found = n board free_slots memo slots id me live s r at k inside

    abbrev pins : ℕ
    pins = times k me.0.counts.pins

    abbrev count : ℕ
    count = count_of found - pins

    found_is : count_of ((words_of r.shape s.words).count k) ≡ count_of found
    found_is = ap count_of (is_count board free_slots memo slots id me live s r at k inside)

    -- at least what the seat has
    has_own : refs k (tally_of me.0) ≤ count_of found
    has_own =
        let has = total-has (refs k) (tallies_in s.views) id (tally_of me.0) (at_map tally_of s.views id me.0 at) in
        let counted = r.parts.counts.counted k in
        let same = found_is in omega (arith, has, counted, same)

    pins_own : pins ≤ refs k (tally_of me.0)
    pins_own = omega arith

    few_found : count < 4294967295
    few_found = let f = few board free_slots memo slots id me live s r at k inside in omega (arith, f)

    pinned_times : one_if ((held_content me.0).pinned k) ≡ pins
    pinned_times = by ((held_content me.0).pinned k) refl
      where
        by : (b : Bool) → (held_content me.0).pinned k ≡ b → one_if ((held_content me.0).pinned k) ≡ pins
        by true is = ap one_if is ∙ (let some_times = among_times me.0.counts.pins k is in let once = all.once k in omega (arith, some_times, once))
        by false is = ap one_if is ∙ sym (never_among me.0.counts.pins k is)

    counted_now : count_of found ≡ count + one_if ((held_content me.0).pinned k)
    counted_now = let p = pinned_times in let a = has_own in let b = pins_own in omega (arith, p, a, b)

    -- what was counted by nobody is so still
    stays_none : (held_content me.0).count k ≡ 0 → count ≡ 0
    stays_none found_none =
        let some_zero = all.zeros k inside found_none in
        let still = r.parts.counts.still id (tally_of me.0) (at_map tally_of s.views id me.0 at) k some_zero in
        let own = all.own k some_zero in
        let same = found_is in omega (arith, still, own, same)

    aged_so : generation_of found ≡ (held_content me.0).generation k
    aged_so =
        let g = all.aged k inside in
        let right = age_true (IsAge (words_of r.shape s.words).count) me.0.known.ages ((r.parts.holders id me.0 at).0 holding) k g.0 g.1 in
        ap generation_of (sym (is_count board free_slots memo slots id me live s r at k inside)) ∙ right ∙ ap or_zero (sym g.1)

    -- the view with the count noted, and these zeros
    abbrev noting : List ℕ → View
    noting zeros = record me.0 { counts = record me.0.counts { zeros = zeros }; work = record me.0.work { counts = with_count k count me.0.work.counts } }

    noting_content : (zeros : List ℕ) → held_content (noting zeros) ≡ record (held_content me.0) { count = put_at (held_content me.0).count k count }
    noting_content zeros = λ i. record (held_content me.0) {
      count = put_is (held_content me.0).count (held_content (noting zeros)).count k count (ap or_zero (count_here k count me.0.work.counts)) (λ t ne. ap or_zero (count_apart k count t me.0.work.counts ne)) i;
    }

    -- it knows the whole store, where a count of 0 is among the zeros, which are true
    has_found : (zeros : List ℕ) → (count ≡ 0 → 0 < times k zeros) → ((j : ℕ) → 0 < times j me.0.counts.zeros → 0 < times j zeros)
        → ((j : ℕ) → 0 < times j zeros → (0 < times j me.0.counts.zeros) ⊎ ((j ≡ k) × (refs k (tally_of me.0) ≡ pins))) → HasFound k found me.0 (noting zeros)
    has_found zeros here kept true_ones =
        let w = held_content me.0 in
        let same = noting_content zeros in record {
          is = refl;
          count = count;
          counted = counted_now;
          content = same;
          stays = stays_none;
          generation = aged_so;
          knows = record {
            sound = subst IsSound (sym same) (sound_counted w (put_at w.count k count) w.generation w.pinned all.sound
                (λ s. elim (cases_eq s k) [
                  | inl e ↦ subst (λ (m : ℕ). m < 4294967295) (sym (put_at-same w.count k count) ∙ ap (put_at w.count k count) (sym e)) few_found
                  | inr ne ↦ subst (λ (m : ℕ). m < 4294967295) (sym (put_at-other w.count k s count ne)) (all.sound.few_counts s)
                ])
                (λ s free. elim (cases_eq s k) [
                  | inl e ↦ ap (put_at w.count k count) e ∙ put_at-same w.count k count ∙ stays_none (all.sound.uncounted k (ap w.word (sym e) ∙ free))
                  | inr ne ↦ put_at-other w.count k s count ne ∙ all.sound.uncounted s free
                ])
                all.sound.unpinned);
            long = all.long;
            noted = all.noted;
            beyond = all.beyond;
            aged = all.aged;
            zeros = λ s lt no_count. elim (cases_eq s k) [
              | inl e ↦ subst (λ (t : ℕ). 0 < times t zeros) (sym e) (here (sym (ap or_zero (count_here k count me.0.work.counts)) ∙ ap (λ t. or_zero (noted_count (with_count k count me.0.work.counts) t)) (sym e) ∙ no_count))
              | inr ne ↦ kept s (all.zeros s lt (sym (ap or_zero (count_apart k count s me.0.work.counts ne)) ∙ no_count))
            ];
            own = λ s some_zero. ⊎_elim (λ old. all.own s old) (λ (new : (s ≡ k) × (refs k (tally_of me.0) ≡ pins)). ap (λ t. refs t (tally_of me.0)) new.0 ∙ new.1 ∙ ap (λ t. times t me.0.counts.pins) (sym new.0)) (true_ones s some_zero);
            once = all.once;
          };
        }

  -- more zeros, and those of a slot alone
  more_zeros : (k j : ℕ) (zeros : List ℕ) → 0 < times j zeros → 0 < times j (k ∷ zeros)
  more_zeros k j zeros some_times = more (one_if (k == j)) (times j zeros) some_times
    where
      more : (a b : ℕ) → 0 < b → 0 < a + b
      more a b lt = omega (arith, lt)

  zero_first : (k : ℕ) (zeros : List ℕ) → 0 < times k (k ∷ zeros)
  zero_first k zeros = more (one_if (k == k)) (times k zeros) (ap one_if (eq-eqb k k refl))
    where
      more : (a b : ℕ) → a ≡ 1 → 0 < a + b
      more a b is = omega (arith, is)

  zero_or : (k j : ℕ) (zeros : List ℕ) (P : Type 0) → P → 0 < times j (k ∷ zeros) → (0 < times j zeros) ⊎ ((j ≡ k) × P)
  zero_or k j zeros P p some_times = elim (cases_eq k j) [
    | inl e ↦ inr (sym e, p)
    | inr ne ↦ inl (less (one_if (k == j)) (times j zeros) some_times (ap one_if (ne_eqb k j ne)))
  ]
    where
      less : (a b : ℕ) → 0 < a + b → a ≡ 0 → 0 < b
      less a b lt is = omega (arith, lt, is)

  pub finds_count : (slots id word : ℕ) (me : Sat) (k : ℕ) → word ≡ count_at (shape_in me.0.draws) k → me.0.draws.live ≡ true → me.0.shares.order ≡ Holding → KnowsAll me.0 → k < me.0.draws.slots
      → Allows TheRule slots id me word (λ x. x) (count_found (step slots word 0 0 none) me)
  finds_count slots id word me k is live holding all inside = subst (λ (i : ℕ). Allows TheRule slots id me i (λ x. x) (count_found (step slots i 0 0 none) me)) (sym is)
      (λ s r long at small.
      let i : ℕ = count_at (shape_in me.0.draws) k in
      let x : ℕ = found s r id me at live holding all k inside slots in
      let p : ℕ = pins s r id me at live holding all k inside slots in
      let one : (j : ℕ) → i ≡ count_at (shape_in me.0.draws) j → k ≡ j = λ j same. omega (arith, same) in
      let a = has_own s r id me at live holding all k inside slots in
      let b = pins_own s r id me at live holding all k inside slots in
      let same = found_is s r id me at live holding all k inside slots in
      dite (ℕ_discrete (count_of x) p)
      -- only the seat's pin, or nothing
      (λ alone.
      let own : refs k (tally_of me.0) ≡ p = omega (arith, alone, a, b) in
      let zeros : List ℕ = k ∷ me.0.counts.zeros in
      let u : View = noting s r id me at live holding all k inside slots zeros in
      let v1 : View = record me.0 { counts = record me.0.counts { zeros = zeros } } in
      let parts = parts_own board free_slots memo r.shape (words_of r.shape s.words) (λ (j : ℕ). get_elem? s.homes j) s.views r.parts id me.0 at k holding (same ∙ alone ∙ sym own) in
      let s1 : State (std.Option S) View = record { words = s.words; homes = s.homes; views = set s.views id v1 } in
      let w0 = words_of r.shape s.words in
      let r1 : TheRule s1 = record { shape = r.shape; wide = r.wide; long = r.long; parts = parts; one = one_still r.shape w0.order w0.node w0.count s.views id me.0 v1 at refl r.one } in
      let r2 = rule_work board free_slots memo s1 id v1 (set_at s.views id me.0 v1 at) u.work r1 in (
        u,
        keeps,
        tt,
        subst (λ (y : List ℕ × List View). TheRule (record { words = y.0; homes = s.homes; views = y.1 })) (λ j. (sym (set-get_or s.words i 0) j, set_set s.views id v1 u j)) r2,
        (refl, refl, (λ j same_word. subst (λ (t : ℕ). HasFound t x me.0 u) (one j same_word) (has_found s r id me at live holding all k inside slots zeros (λ _. zero_first k me.0.counts.zeros) (λ j some_times. more_zeros k j me.0.counts.zeros some_times) (λ j some_times. zero_or k j me.0.counts.zeros (refs k (tally_of me.0) ≡ p) own some_times))), finds_told board free_slots memo s r id me.0 at live i),
      ))
      -- others count it too
      (λ more.
      let some_left : count s r id me at live holding all k inside slots ≡ 0 → ⊥ = λ no_count. more (omega (arith, no_count, a, b)) in
      let u : View = noting s r id me at live holding all k inside slots me.0.counts.zeros in
      let r1 = rule_work board free_slots memo s id me.0 at u.work r in (
        u,
        keeps,
        tt,
        subst (λ (l : List ℕ). TheRule (record { words = l; homes = s.homes; views = set s.views id u })) (sym (set-get_or s.words i 0)) r1,
        (refl, refl, (λ j same_word. subst (λ (t : ℕ). HasFound t x me.0 u) (one j same_word) (has_found s r id me at live holding all k inside slots me.0.counts.zeros (λ no_count. absurd (some_left no_count)) (λ j some_times. some_times) (λ j some_times. inl some_times))), finds_told board free_slots memo s r id me.0 at live i),
      )))

  -- the new generation of a slot that nothing holds
  pub renews : (slots id word : ℕ) (me : Sat) (k x : ℕ) → word ≡ count_at (shape_in me.0.draws) k → x < 18446744073709551616 → me.0.draws.live ≡ true → me.0.shares.order ≡ Holding → KnowsAll me.0 → k < me.0.draws.slots → (held_content me.0).count k ≡ 0 → (held_content me.0).pinned k ≡ false → count_of x ≡ 0
      → Allows TheRule slots id me word (λ _. x) (generation_stored (step slots word x 0 none) me)
  renews slots id word me k x is fits live holding all inside uncounted unpinned none_counted = subst (λ (i : ℕ). Allows TheRule slots id me i (λ _. x) (generation_stored (step slots i x 0 none) me)) (sym is)
      (λ s r long at small.
      let v = me.0 in
      let z = r.shape in
      let w0 = words_of z s.words in
      let homes = λ (j : ℕ). get_elem? s.homes j in
      let g : ℕ = generation_of x in
      let some_zero = all.zeros k inside uncounted in
      let before : count_of (w0.count k) ≡ 0 = r.parts.counts.still id (tally_of v) (at_map tally_of s.views id v at) k some_zero ∙ all.own k some_zero ∙ never_among v.counts.pins k unpinned in
      let c : ℕ → ℕ = put_at w0.count k x in
      let v1 : View = with_ages v (ages_without k v.known.ages) in
      let u : View = with_ages v (with_age k g v.known.ages) in
      let at1 = set_at s.views id v v1 at in
      let p1 = parts_aging board free_slots memo z w0 homes s.views r.parts id v at (ages_without k v.known.ages) (λ h. ages_still (IsAge w0.count) k v.known.ages ((r.parts.holders id v at).0 h)) in
      let p2 = parts_generation board free_slots memo z w0 homes (set s.views id v1) p1 k c before (ap count_of (put_at-same w0.count k x) ∙ none_counted) (λ j ne. put_at-other w0.count k j x ne)
      (λ i o there its. dite (ℕ_discrete i id)
      (λ same. subst (λ (y : View). Each (λ (a : SlotGeneration). a.slot ≢ k) y.known.ages) (some-injective v1 o (sym at1 ∙ (ap (λ j. get_elem? (set s.views id v1) j) (sym same) ∙ there))) (ages_off k v.known.ages))
      (λ apart. absurd (one_order w0.phase (footings_in (set s.views id v1)) p1.phase id i (footing_of v1) (footing_of o) apart (at_map footing_of (set s.views id v1) id v1 at1) (at_map footing_of (set s.views id v1) i o there) holding its))) in
      let w1 = record w0 { count = c } in
      let noted : View = noting_count k x u in
      let p3 = parts_aging board free_slots memo z w1 homes (set s.views id v1) p2 id v1 at1 (with_age k g v.known.ages) (λ h. (ap generation_of (put_at-same w0.count k x), (p2.holders id v1 at1).0 h)) in (
        noted,
        keeps,
        tt,
        ends board free_slots memo slots id me live s r at k inside x x (λ _. refl) u refl (subst (λ (l : List View). Parts board free_slots memo z w1 homes l) (set_set s.views id v1 u) p3),
        (refl, refl, (λ j same. subst (λ (t : ℕ). HasRenewed t x v noted) (let e : k ≡ j = omega (arith, same) in e) (has_renewed v k x all))),
      ))
    where
      has_renewed : (v : View) (k x : ℕ) → KnowsAll v → HasRenewed k x v (noting_count k x (with_ages v (with_age k (generation_of x) v.known.ages)))
      has_renewed v k x all =
          let w = held_content v in
          let g : ℕ = generation_of x in
          let u = with_ages v (with_age k g v.known.ages) in
          let gen : (held_content u).generation ≡ put_at w.generation k g = put_is w.generation (held_content u).generation k g (ap or_zero (age_here k g v.known.ages)) (λ t ne. ap or_zero (age_apart k g t v.known.ages ne)) in
          let same : held_content u ≡ record w { generation = put_at w.generation k g } = λ i. record w { generation = gen i } in record {
            is = refl;
            content = same;
            knows = record {
              sound = subst IsSound (sym same) (sound_counted w w.count (put_at w.generation k g) w.pinned all.sound all.sound.few_counts all.sound.uncounted all.sound.unpinned);
              long = all.long;
              noted = all.noted;
              beyond = all.beyond;
              aged = λ s lt. elim (cases_eq s k) [
                | inl e ↦ (g, ap (noted_age (with_age k g v.known.ages)) e ∙ age_here k g v.known.ages)
                | inr ne ↦ let a = all.aged s lt in (a.0, age_apart k g s v.known.ages ne ∙ a.1)
              ];
              zeros = all.zeros;
              own = all.own;
              once = all.once;
            };
          }
