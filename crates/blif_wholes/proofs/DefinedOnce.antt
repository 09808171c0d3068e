-- No signal of a whole is defined twice: each one of a copy is one of the copy's model, renamed, or has the number of a copy inside it.
use Rattle.std.proofs.Common.{◌≡◌, ℕ, zero, suc, ◌+◌, ◌<◌, ◌≤◌, ◌&&◌, not, Bool, true, false, List, [], ◌∷◌, ◌++◌, drop, map, Option, None, Some, codes, inl, inr, refl, ap, sym, ◌∙◌, subst, arith}
use Rattle.std.specs.Prelude.{◌⊎◌, sum_by}
use Rattle.std.specs.List.{flat_map, list_all}
use Rattle.std.proofs.lemmas.Bool.{and_parts, false≢true}
use Rattle.std.proofs.lemmas.Grind.{flat_map-append}
use Rattle.std.proofs.lemmas.List.Sums.{sum_by-cons}
use Rattle.job_words.specs.Text.{Word, is_among}
use Rattle.blif_models.specs.Models.{Instance, Item, Join, Model, actual_of, copies_by, copies_within, covered, expanded, held, items_in, joins_of, laid_out, latched, model_of, name_by, name_within, names_of, numeral}
use Rattle.blif_models.specs.Circuits.{some_again}
use Rattle.blif_models.specs.ModelFaults.{actual_outputs, formal_inputs, formal_outputs, is_join, is_misjoined, joins_well}
use Rattle.blif_drafts.specs.Signals.{defined_by}
use Rattle.blif_wholes.specs.Defined.{Once}
use Rattle.blif_wholes.proofs.Words.{among_back, among_either, among_front, among_parts, first_among, marked_apart, marked_is, marked_name, once_from, once_parts}
use Rattle.blif_wholes.proofs.Joins.{joined_among, joined_formal, one_join}

-- the signals that items define, each with those of its actual outputs
abbrev pub own_defined : List Model → Item → List Word
own_defined models (covered cover) = cover.name ∷ []
own_defined models (latched latch) = latch.output ∷ []
own_defined models (held instance) = actual_outputs (model_of models instance) (joins_of instance)

abbrev pub all_defined : List Model → List Item → List Word
all_defined models [] = []
all_defined models (item ∷ items) = own_defined models item ++ all_defined models items

-- what covers and latches define
abbrev pub laid_signals : List Item → List Word
laid_signals items = flat_map defined_by items

-- a signal of a copy is one of its model, renamed, or has the number of a copy that comes later
abbrev pub Comes : (Word → Word) → List Word → ℕ → ℕ → Word → Type 0
Comes rename own low high z =
    ((word : Word) × (is_among own word ≡ true) × (z ≡ rename word)) ⊎ ((number : ℕ) × (name : Word) × (low < number) × (number ≤ high) × (z ≡ marked_name number name))

-- Different signals are renamed differently, and none as one of those copies.
pub record IsNaming (rename : Word → Word) (own : List Word) (low high : ℕ) : Type 0 where
  pub one_to_one : (a b : Word) → is_among own a ≡ true → is_among own b ≡ true → rename a ≡ rename b → a ≡ b
  pub unmarked : (a : Word) (number : ℕ) (name : Word) → is_among own a ≡ true → low < number → number ≤ high → rename a ≡ marked_name number name → ⊥

pub record AreOnce (rename : Word → Word) (own : List Word) (low high : ℕ) (zs : List Word) : Type 0 where
  pub once : Once zs
  pub comes : (z : Word) → is_among zs z ≡ true → Comes rename own low high z

so : (b : Bool) → not b ≡ false → b ≡ true
so true h = refl
so false h = sym h

nothing_once : (rename : Word → Word) (own : List Word) (low high : ℕ) → AreOnce rename own low high []
nothing_once rename own low high = record { once = tt; comes = λ z e. absurd (false≢true e) }

module _ (rename : Word → Word) (own back : List Word) (low mid high : ℕ) (up : low ≤ mid) (on : mid ≤ high) where
  front_naming : IsNaming rename (own ++ back) low high → IsNaming rename own low mid
  front_naming n = record {
    one_to_one = λ a b e f g. n.one_to_one a b (among_front own back a e) (among_front own back b f) g;
    unmarked = λ a number name e lo hi g. n.unmarked a number name (among_front own back a e) lo (omega (arith, hi, on)) g;
  }

  back_naming : IsNaming rename (own ++ back) low high → IsNaming rename back mid high
  back_naming n = record {
    one_to_one = λ a b e f g. n.one_to_one a b (among_back own back a e) (among_back own back b f) g;
    unmarked = λ a number name e lo hi g. n.unmarked a number name (among_back own back a e) (omega (arith, lo, up)) hi g;
  }

  module _ (once : Once (own ++ back)) (n : IsNaming rename (own ++ back) low high) (zs ys : List Word) where
    clash : (z : Word) → Comes rename own low mid z → Comes rename back mid high z → ⊥
    clash z (inl a) (inl b) =
        let same = n.one_to_one a.0 b.0 (among_front own back a.0 a.1) (among_back own back b.0 b.1) (sym a.2 ∙ b.2) in
        (once_parts own back once).2 a.0 a.1 (subst (λ (t : Word). is_among back t ≡ true) (sym same) b.1)
    clash z (inl a) (inr b) = n.unmarked a.0 b.0 b.1 (among_front own back a.0 a.1) (omega (arith, b.2, up)) b.3 (sym a.2 ∙ b.4)
    clash z (inr a) (inl b) = n.unmarked b.0 a.0 a.1 (among_back own back b.0 b.1) a.2 (omega (arith, a.3, on)) (sym b.2 ∙ a.4)
    clash z (inr a) (inr b) = let same = (marked_apart a.0 b.0 a.1 b.1 (sym a.4 ∙ b.4)).0 in absurd (omega (arith, same, a.3, b.2))

    wide_front : (z : Word) → Comes rename own low mid z → Comes rename (own ++ back) low high z
    wide_front z (inl a) = inl (a.0, among_front own back a.0 a.1, a.2)
    wide_front z (inr a) = inr (a.0, a.1, a.2, omega (arith, a.3, on), a.4)

    wide_back : (z : Word) → Comes rename back mid high z → Comes rename (own ++ back) low high z
    wide_back z (inl a) = inl (a.0, among_back own back a.0 a.1, a.2)
    wide_back z (inr a) = inr (a.0, a.1, omega (arith, a.2, up), a.3, a.4)

    both_once : AreOnce rename own low mid zs → AreOnce rename back mid high ys → AreOnce rename (own ++ back) low high (zs ++ ys)
    both_once a b = record { once = once_from zs ys a.once b.once (λ z e f. clash z (a.comes z e) (b.comes z f)); comes = λ z e. by_part z (among_parts zs ys z e) }
      where
        by_part : (z : Word) → (is_among zs z ≡ true) ⊎ (is_among ys z ≡ true) → Comes rename (own ++ back) low high z
        by_part z (inl e) = wide_front z (a.comes z e)
        by_part z (inr e) = wide_back z (b.comes z e)

-- a cover or a latch
one_once : (rename : Word → Word) (name : Word) (low : ℕ) → AreOnce rename (name ∷ []) low low (rename name ∷ [])
one_once rename name low = record { once = (refl, tt); comes = λ z e. by_kind z (among_either (rename name) [] z e) }
  where
    by_kind : (z : Word) → (z ≡ rename name) ⊎ (is_among [] z ≡ true) → Comes rename (name ∷ []) low low z
    by_kind z (inl e) = inl (name, first_among name [], e)
    by_kind z (inr e) = absurd (false≢true e)

-- of each instance
abbrev pub AllHeld : (Instance → Type 0) → List Item → Type 0
AllHeld P [] = Unit {0}
AllHeld P (held instance ∷ items) = P instance × AllHeld P items
AllHeld P (_ ∷ items) = AllHeld P items

module _ (models : List Model) (copy : ℕ → Instance → List Item) (inside : Instance → ℕ) (rename : Word → Word) (Good : Instance → Type 0)
    (inner : (copies : ℕ) (instance : Instance) → Good instance → Once (own_defined models (held instance)) → IsNaming rename (own_defined models (held instance)) copies (suc (copies + inside instance))
    → AreOnce rename (own_defined models (held instance)) copies (suc (copies + inside instance)) (laid_signals (copy (suc copies) instance))) where
  laid_once : (copies high : ℕ) (items : List Item) → AllHeld Good items → Once (all_defined models items) → copies + sum_by (copies_by inside) items ≤ high → IsNaming rename (all_defined models items) copies high
      → AreOnce rename (all_defined models items) copies high (laid_signals (laid_out copy inside rename copies items))
  laid_once copies high [] good once fits n = nothing_once rename [] copies high
  laid_once copies high (covered cover ∷ items) good once fits n =
      let back = all_defined models items in
      let more = sum_by-cons (copies_by inside) (covered cover) items in
      let up : copies ≤ copies = omega arith in
      let on : copies ≤ high = omega (arith, fits) in
      both_once rename (cover.name ∷ []) back copies copies high up on once n (rename cover.name ∷ []) (laid_signals (laid_out copy inside rename copies items)) (one_once rename cover.name copies)
      (laid_once copies high items good once.1 (omega (arith, fits, more)) (back_naming rename (cover.name ∷ []) back copies copies high up on n))
  laid_once copies high (latched latch ∷ items) good once fits n =
      let back = all_defined models items in
      let more = sum_by-cons (copies_by inside) (latched latch) items in
      let up : copies ≤ copies = omega arith in
      let on : copies ≤ high = omega (arith, fits) in
      both_once rename (latch.output ∷ []) back copies copies high up on once n (rename latch.output ∷ []) (laid_signals (laid_out copy inside rename copies items)) (one_once rename latch.output copies)
      (laid_once copies high items good once.1 (omega (arith, fits, more)) (back_naming rename (latch.output ∷ []) back copies copies high up on n))
  laid_once copies high (held instance ∷ items) good once fits n =
      let own = own_defined models (held instance) in
      let back = all_defined models items in
      let mid = suc (copies + inside instance) in
      let more = sum_by-cons (copies_by inside) (held instance) items in
      let up : copies ≤ mid = omega arith in
      let on : mid ≤ high = omega (arith, fits, more) in
      let parts = once_parts own back once in
      let here = laid_signals (copy (suc copies) instance) in
      let rest = laid_out copy inside rename mid items in
      subst (AreOnce rename (own ++ back) copies high) (sym (flat_map-append defined_by (copy (suc copies) instance) rest))
      (both_once rename own back copies mid high up on once n here (laid_signals rest) (inner copies instance good.0 parts.0 (front_naming rename own back copies mid high up on n))
      (laid_once mid high items good.1 parts.1 (omega (arith, fits, more)) (back_naming rename own back copies mid high up on n)))

-- Instances that join well, of models that define no signal twice.

abbrev pub IsFit : List Model → Instance → Option Model → Type 0
IsFit models instance None = Unit {0}
IsFit models instance (Some model) = (is_misjoined (Some model) instance ≡ false) × Once (names_of model.inputs ++ all_defined models model.items)

unfoldable pub AreFit : List Model → ℕ → List Item → Type 0
AreFit models zero items = Unit {0}
AreFit models (suc levels) items = AllHeld (λ instance. IsFit models instance (model_of models instance) × AreFit models levels (items_in (model_of models instance))) items

-- the names of a copy

module _ (models : List Model) (rename : Word → Word) (copies high : ℕ) (instance : Instance) (on : suc copies ≤ high) where
  -- how a signal of the copy is renamed
  Renamed : Word → Type 0
  Renamed word = ((actual : Word) × (actual_of (joins_of instance) word ≡ Some actual) × (name_within rename (suc copies) (joins_of instance) word ≡ rename actual))
      ⊎ (name_within rename (suc copies) (joins_of instance) word ≡ marked_name (suc copies) word)

  kind_of : (word : Word) → Renamed word
  unfolding Renamed
  kind_of word = by_cases (actual_of (joins_of instance) word) refl
    where
      by_cases : (o : Option Word) → actual_of (joins_of instance) word ≡ o
          → ((actual : Word) × (actual_of (joins_of instance) word ≡ Some actual) × (name_within rename (suc copies) (joins_of instance) word ≡ rename actual))
          ⊎ (name_within rename (suc copies) (joins_of instance) word ≡ marked_name (suc copies) word)
      by_cases None e = inr (ap (name_by rename (numeral (suc copies) ++ codes "#" ++ word)) e ∙ sym (marked_is (suc copies) word))
      by_cases (Some actual) e = inl (actual, e, ap (name_by rename (numeral (suc copies) ++ codes "#" ++ word)) e)

  module _ (model : Model) (fit : IsFit models instance (Some model)) where
    is_output : (word actual : Word) → is_among (all_defined models model.items) word ≡ true → actual_of (joins_of instance) word ≡ Some actual → is_among (formal_outputs model) word ≡ true
    is_output word actual e f =
        let known = joined_formal (formal_inputs model ++ formal_outputs model) (joins_of instance) word actual (formals_known fit.0) f in
        by_part (among_parts (formal_inputs model) (formal_outputs model) word known)
      where
        formals_known : is_misjoined (Some model) instance ≡ false → list_all (is_among (formal_inputs model ++ formal_outputs model)) (map (λ (join : Join). join.formal) (joins_of instance)) ≡ true
        formals_known h =
            let formals = map (λ (join : Join). join.formal) (joins_of instance) in
            let joined = list_all is_join (drop 1 instance.words) in
            let formal = list_all (is_among (formal_inputs model ++ formal_outputs model)) formals in
            let once = not (some_again [] formals) in
            let all = and_parts (joined && formal && once) (list_all (is_among formals) (formal_inputs model)) (so (joins_well model (drop 1 instance.words) formals) h) in
            (and_parts joined formal (and_parts (joined && formal) once all.0).0).1

        by_part : (is_among (formal_inputs model) word ≡ true) ⊎ (is_among (formal_outputs model) word ≡ true) → is_among (formal_outputs model) word ≡ true
        by_part (inl k) = absurd ((once_parts (names_of model.inputs) (all_defined models model.items) fit.1).2 word k e)
        by_part (inr k) = k

    actual_in : (word actual : Word) → is_among (all_defined models model.items) word ≡ true → actual_of (joins_of instance) word ≡ Some actual → is_among (actual_outputs (Some model) (joins_of instance)) actual ≡ true
    actual_in word actual e f = joined_among (formal_outputs model) (joins_of instance) word actual f (is_output word actual e f)

    inner_naming : Once (actual_outputs (Some model) (joins_of instance)) → IsNaming rename (actual_outputs (Some model) (joins_of instance)) copies high
        → IsNaming (name_within rename (suc copies) (joins_of instance)) (all_defined models model.items) (suc copies) high
    unfolding Renamed
    inner_naming once n = record { one_to_one = λ a b e f g. same a b e f (kind_of a) (kind_of b) g; unmarked = λ a number name e lo hi g. apart a number name e (kind_of a) lo hi g }
      where
        same : (a b : Word) → is_among (all_defined models model.items) a ≡ true → is_among (all_defined models model.items) b ≡ true → Renamed a → Renamed b
            → name_within rename (suc copies) (joins_of instance) a ≡ name_within rename (suc copies) (joins_of instance) b → a ≡ b
        same a b e f (inl x) (inl y) g =
            let actual = n.one_to_one x.0 y.0 (actual_in a x.0 e x.1) (actual_in b y.0 f y.1) (sym x.2 ∙ g ∙ y.2) in
            one_join (formal_outputs model) (joins_of instance) a b x.0 once x.1 (y.1 ∙ ap Some (sym actual)) (is_output a x.0 e x.1) (is_output b y.0 f y.1)
        same a b e f (inl x) (inr y) g = absurd (n.unmarked x.0 (suc copies) b (actual_in a x.0 e x.1) (omega arith) on (sym x.2 ∙ g ∙ y))
        same a b e f (inr x) (inl y) g = absurd (n.unmarked y.0 (suc copies) a (actual_in b y.0 f y.1) (omega arith) on (sym y.2 ∙ sym g ∙ x))
        same a b e f (inr x) (inr y) g = (marked_apart (suc copies) (suc copies) a b (sym x ∙ g ∙ y)).1

        apart : (a : Word) (number : ℕ) (name : Word) → is_among (all_defined models model.items) a ≡ true → Renamed a → suc copies < number → number ≤ high
            → name_within rename (suc copies) (joins_of instance) a ≡ marked_name number name → ⊥
        apart a number name e (inl x) lo hi g = n.unmarked x.0 number name (actual_in a x.0 e x.1) (omega (arith, lo)) hi (sym x.2 ∙ g)
        apart a number name e (inr x) lo hi g = let same = (marked_apart (suc copies) number a name (sym x ∙ g)).0 in absurd (omega (arith, same, lo))

    comes_outside : (z : Word) → Comes (name_within rename (suc copies) (joins_of instance)) (all_defined models model.items) (suc copies) high z → Comes rename (actual_outputs (Some model) (joins_of instance)) copies high z
    unfolding Renamed
    comes_outside z (inr a) = inr (a.0, a.1, omega (arith, a.2), a.3, a.4)
    comes_outside z (inl a) = by_kind (kind_of a.0)
      where
        by_kind : Renamed a.0 → Comes rename (actual_outputs (Some model) (joins_of instance)) copies high z
        by_kind (inl x) = inl (x.0, actual_in a.0 x.0 a.1 x.1, a.2 ∙ x.2)
        by_kind (inr x) = inr (suc copies, a.0, omega arith, on, a.2 ∙ x)

-- through levels of models

pub expanded_once : (models : List Model) (levels : ℕ) (rename : Word → Word) (copies high : ℕ) (items : List Item) → AreFit models levels items → Once (all_defined models items) → copies + copies_within models levels items ≤ high
    → IsNaming rename (all_defined models items) copies high → AreOnce rename (all_defined models items) copies high (laid_signals (expanded models levels rename copies items))
unfolding expanded copies_within AreFit
expanded_once models zero rename copies high items fit once fits n =
    laid_once models (λ number instance. []) (λ instance. 0) rename (λ instance. Unit {0})
    (λ copies instance good once n. nothing_once rename (own_defined models (held instance)) copies (suc (copies + 0))) copies high items (all_held items) once fits n
  where
    all_held : (items : List Item) → AllHeld (λ instance. Unit {0}) items
    all_held [] = tt
    all_held (covered cover ∷ items) = all_held items
    all_held (latched latch ∷ items) = all_held items
    all_held (held instance ∷ items) = (tt, all_held items)
expanded_once models (suc levels) rename copies high items fit once fits n =
    laid_once models (λ number instance. expanded models levels (name_within rename number (joins_of instance)) number (items_in (model_of models instance)))
    (λ instance. copies_within models levels (items_in (model_of models instance))) rename
    (λ instance. IsFit models instance (model_of models instance) × AreFit models levels (items_in (model_of models instance)))
    (λ copies instance good once n.
    by_model copies instance (model_of models instance) good.0 once n
    (λ once' n'.
    expanded_once models levels (name_within rename (suc copies) (joins_of instance)) (suc copies) (suc (copies + copies_within models levels (items_in (model_of models instance)))) (items_in (model_of models instance)) good.1 once' (omega arith) n'))
    copies high items fit once fits n
  where
    by_model : (copies : ℕ) (instance : Instance) (o : Option Model) → IsFit models instance o → Once (actual_outputs o (joins_of instance))
        → IsNaming rename (actual_outputs o (joins_of instance)) copies (suc (copies + copies_within models levels (items_in o)))
        → (Once (all_defined models (items_in o)) → IsNaming (name_within rename (suc copies) (joins_of instance)) (all_defined models (items_in o)) (suc copies) (suc (copies + copies_within models levels (items_in o)))
        → AreOnce (name_within rename (suc copies) (joins_of instance)) (all_defined models (items_in o)) (suc copies) (suc (copies + copies_within models levels (items_in o)))
        (laid_signals (expanded models levels (name_within rename (suc copies) (joins_of instance)) (suc copies) (items_in o))))
        → AreOnce rename (actual_outputs o (joins_of instance)) copies (suc (copies + copies_within models levels (items_in o)))
        (laid_signals (expanded models levels (name_within rename (suc copies) (joins_of instance)) (suc copies) (items_in o)))
    by_model copies instance None fit once n more =
        let none = more tt (record { one_to_one = λ a b e f g. absurd (false≢true e); unmarked = λ a number name e lo hi g. false≢true e }) in
        record { once = none.once; comes = λ z e. widen z (none.comes z e) }
      where
        widen : (z : Word) → Comes (name_within rename (suc copies) (joins_of instance)) [] (suc copies) (suc (copies + copies_within models levels [])) z
            → Comes rename [] copies (suc (copies + copies_within models levels [])) z
        widen z (inl a) = absurd (false≢true a.1)
        widen z (inr a) = inr (a.0, a.1, omega (arith, a.2), a.3, a.4)
    by_model copies instance (Some model) fit once n more =
        let high = suc (copies + copies_within models levels model.items) in
        let on : suc copies ≤ high = omega arith in
        let inner = more (once_parts (names_of model.inputs) (all_defined models model.items) fit.1).1 (inner_naming models rename copies high instance on model fit once n) in
        record { once = inner.once; comes = λ z e. comes_outside models rename copies high instance on model fit z (inner.comes z e) }
