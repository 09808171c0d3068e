-- Where nothing is wrong with the models that a main one reaches, no signal of its whole is defined twice.
use Rattle.std.proofs.Common.{◌≡◌, ℕ, zero, suc, ◌==◌, ◌||◌, Bool, true, false, cond, List, [], ◌∷◌, ◌++◌, append_assoc, append-nil, filter, length, map, Option, None, Some, inl, inr, refl, ap, sym, ◌∙◌, subst, arith}
use Rattle.std.specs.Prelude.{◌⊎◌, if◌then◌else◌, nat_lt, option_to_list}
use Rattle.std.specs.List.{flat_map, list_all, list_any}
use Rattle.std.specs.Str.{bytes_eq}
use Rattle.std.proofs.lemmas.Bool.{and_parts, false≢true}
use Rattle.std.proofs.lemmas.Grind.{flat_map-append}
use Rattle.std.proofs.lemmas.List.{map-append}
use Rattle.job_words.specs.Text.{Word, is_among}
use Rattle.blif_text.specs.Marks.{is_plain}
use Rattle.blif_models.specs.Circuits.{defined_in}
use Rattle.blif_models.specs.Models.{Instance, Item, Latch, Model, Named, Use, copies_within, covered, covers_among, held, items_in, joins_of, latched, latches_among, model_of, names_of, uses_on, whole_items}
use Rattle.blif_models.specs.ModelFaults.{actual_outputs, clash_with, clashes, definitions_by, definitions_in, instances_in, is_misjoined, least, reached}
use Rattle.blif_drafts.proofs.NamesApart.{no_mark}
use Rattle.blif_wholes.specs.Defined.{Once, WholesDefineOnce, words_defined}
use Rattle.blif_wholes.proofs.Words.{among_back, among_either, among_front, among_parts, first_among, has_its_mark, later_among, marked_name, never, not_so, once_from, once_parts, words_by, words_named, words_on}
use Rattle.blif_wholes.proofs.DefinedOnce.{AllHeld, AreFit, Comes, IsFit, IsNaming, all_defined, expanded_once, laid_signals}

-- nothing is told

none_told : (ns : List ℕ) → least ns ≡ None → ns ≡ []
none_told [] h = refl
none_told (n ∷ ns) h = cc

nil_parts : {A : Type 0} (front back : List A) → front ++ back ≡ [] → (front ≡ []) × (back ≡ [])
nil_parts [] back h = (refl, h)
nil_parts (x ∷ front) back h = cc

-- definitions without clashes

no_clash : (one : Use) (others : List Use) → flat_map (clash_with one) others ≡ [] → is_among (words_by others) one.word ≡ false
no_clash one [] h = refl
no_clash one (other ∷ others) h =
    let both = nil_parts (clash_with one other) (flat_map (clash_with one) others) h in
    by_cases (bytes_eq one.word other.word) refl both.0 (no_clash one others both.1)
  where
    by_cases : (b : Bool) → bytes_eq one.word other.word ≡ b → clash_with one other ≡ [] → is_among (words_by others) one.word ≡ false → is_among (words_by (other ∷ others)) one.word ≡ false
    by_cases false e k more = ap (λ b. b || is_among (words_by others) one.word) e ∙ more
    by_cases true e k more =
        let told : (if true then (if nat_lt one.line other.line then other.line else one.line) ∷ [] else []) ≡ [] = sym (ap (λ b. if b then (if nat_lt one.line other.line then other.line else one.line) ∷ [] else []) e) ∙ k in
        cc

once_by : (uses : List Use) → clashes uses ≡ [] → Once (words_by uses)
once_by [] h = tt
once_by (one ∷ others) h = let both = nil_parts (flat_map (clash_with one) others) (clashes others) h in (no_clash one others both.0, once_by others both.1)

-- the words of definitions

items_defined : (models : List Model) (items : List Item) → words_by (flat_map (definitions_by models) items) ≡ all_defined models items
items_defined models [] = refl
items_defined models (covered cover ∷ items) = ap (λ t. cover.name ∷ t) (items_defined models items)
items_defined models (latched latch ∷ items) = ap (λ t. latch.output ∷ t) (items_defined models items)
items_defined models (held instance ∷ items) =
    map-append (λ (one : Use). one.word) (definitions_by models (held instance)) (flat_map (definitions_by models) items)
    ∙ (λ j. words_on instance.line (actual_outputs (model_of models instance) (joins_of instance)) j ++ items_defined models items j)

pub all_words : (models : List Model) (model : Model) → words_defined models model ≡ names_of model.inputs ++ all_defined models model.items
all_words models model =
    map-append (λ (one : Use). one.word) (flat_map (λ (one : Named). uses_on one.line one.words) model.inputs) (flat_map (definitions_by models) model.items)
    ∙ (λ j. words_named model.inputs j ++ items_defined models model.items j)

-- what is wrong with a model itself

abbrev joins_of_model : List Model → Model → List ℕ
joins_of_model models model = map (λ instance. instance.line) (filter (λ instance. is_misjoined (model_of models instance) instance) (instances_in model.items))

abbrev clashes_of_model : List Model → Model → List ℕ
clashes_of_model models model = clashes (definitions_in models model)

abbrev JoinsWell : List Model → Instance → Type 0
JoinsWell models instance = is_misjoined (model_of models instance) instance ≡ false

all_join : (models : List Model) (items : List Item) → map (λ (instance : Instance). instance.line) (filter (λ instance. is_misjoined (model_of models instance) instance) (instances_in items)) ≡ [] → AllHeld (JoinsWell models) items
all_join models [] h = tt
all_join models (covered cover ∷ items) h = all_join models items h
all_join models (latched latch ∷ items) h = all_join models items h
all_join models (held instance ∷ items) h = by_cases (is_misjoined (model_of models instance) instance) refl h (λ k. all_join models items k)
  where
    kept : List Instance
    kept = filter (λ one. is_misjoined (model_of models one) one) (instances_in items)

    by_cases : (b : Bool) → is_misjoined (model_of models instance) instance ≡ b → map (λ (one : Instance). one.line) (cond b (instance ∷ kept) kept) ≡ [] → (map (λ (one : Instance). one.line) kept ≡ [] → AllHeld (JoinsWell models) items)
        → JoinsWell models instance × AllHeld (JoinsWell models) items
    by_cases true e k more = cc
    by_cases false e k more = (e, more k)

-- level by level

fit_nothing : (models : List Model) (levels : ℕ) → AreFit models levels []
unfolding AreFit
fit_nothing models zero = tt
fit_nothing models (suc levels) = tt

all_fit : (models : List Model) (levels : ℕ) (items : List Item) → AllHeld (JoinsWell models) items → flat_map (joins_of_model models) (reached models levels items) ≡ [] → flat_map (clashes_of_model models) (reached models levels items) ≡ []
    → AreFit models levels items
unfolding AreFit reached
all_fit models zero items well joins clash = tt
all_fit models (suc levels) items well joins clash = each items well joins clash (λ inner w j c. all_fit models levels inner w j c)
  where
    through : Instance → List Model
    through instance = flat_map (λ model. model ∷ reached models levels model.items) (option_to_list (model_of models instance))

    one_model : (instance : Instance) (o : Option Model) → is_misjoined o instance ≡ false → flat_map (joins_of_model models) (flat_map (λ model. model ∷ reached models levels model.items) (option_to_list o)) ≡ []
        → flat_map (clashes_of_model models) (flat_map (λ model. model ∷ reached models levels model.items) (option_to_list o)) ≡ []
        → ((inner : List Item) → AllHeld (JoinsWell models) inner → flat_map (joins_of_model models) (reached models levels inner) ≡ [] → flat_map (clashes_of_model models) (reached models levels inner) ≡ [] → AreFit models levels inner)
        → IsFit models instance o × AreFit models levels (items_in o)
    one_model instance None well joins clash more = (tt, fit_nothing models levels)
    one_model instance (Some model) well joins clash more =
        let inside = reached models levels model.items in
        let same : (model ∷ inside) ++ [] ≡ model ∷ inside = append-nil (model ∷ inside) in
        let j = nil_parts (joins_of_model models model) (flat_map (joins_of_model models) inside) (ap (flat_map (joins_of_model models)) (sym same) ∙ joins) in
        let c = nil_parts (clashes_of_model models model) (flat_map (clashes_of_model models) inside) (ap (flat_map (clashes_of_model models)) (sym same) ∙ clash) in
        ((well, subst Once (all_words models model) (once_by (definitions_in models model) c.0)), more model.items (all_join models model.items j.0) j.1 c.1)

    each : (items : List Item) → AllHeld (JoinsWell models) items → flat_map (joins_of_model models) (flat_map through (instances_in items)) ≡ [] → flat_map (clashes_of_model models) (flat_map through (instances_in items)) ≡ []
        → ((inner : List Item) → AllHeld (JoinsWell models) inner → flat_map (joins_of_model models) (reached models levels inner) ≡ [] → flat_map (clashes_of_model models) (reached models levels inner) ≡ [] → AreFit models levels inner)
        → AllHeld (λ instance. IsFit models instance (model_of models instance) × AreFit models levels (items_in (model_of models instance))) items
    each [] well joins clash more = tt
    each (covered cover ∷ items) well joins clash more = each items well joins clash more
    each (latched latch ∷ items) well joins clash more = each items well joins clash more
    each (held instance ∷ items) well joins clash more =
        let rest = flat_map through (instances_in items) in
        let j = nil_parts (flat_map (joins_of_model models) (through instance)) (flat_map (joins_of_model models) rest) (sym (flat_map-append (joins_of_model models) (through instance) rest) ∙ joins) in
        let c = nil_parts (flat_map (clashes_of_model models) (through instance)) (flat_map (clashes_of_model models) rest) (sym (flat_map-append (clashes_of_model models) (through instance) rest) ∙ clash) in
        (one_model instance (model_of models instance) well.0 j.0 c.0 more, each items well.1 j.1 c.1 more)

-- latches and covers apart

latches_in : (items : List Item) (z : Word) → is_among (map (λ (latch : Latch). latch.output) (latches_among items)) z ≡ true → is_among (laid_signals items) z ≡ true
latches_in [] z e = e
latches_in (covered cover ∷ items) z e = later_among cover.name (laid_signals items) z (latches_in items z e)
latches_in (held instance ∷ items) z e = latches_in items z e
latches_in (latched latch ∷ items) z e = by_kind (among_either latch.output (map (λ (latch : Latch). latch.output) (latches_among items)) z e) (λ k. latches_in items z k)
  where
    by_kind : (z ≡ latch.output) ⊎ (is_among (map (λ (latch : Latch). latch.output) (latches_among items)) z ≡ true)
        → (is_among (map (λ (latch : Latch). latch.output) (latches_among items)) z ≡ true → is_among (laid_signals items) z ≡ true) → is_among (latch.output ∷ laid_signals items) z ≡ true
    by_kind (inl k) more = subst (λ (t : Word). is_among (latch.output ∷ laid_signals items) t ≡ true) (sym k) (first_among latch.output (laid_signals items))
    by_kind (inr k) more = later_among latch.output (laid_signals items) z (more k)

covers_in : (items : List Item) (z : Word) → is_among (defined_in (covers_among items)) z ≡ true → is_among (laid_signals items) z ≡ true
covers_in [] z e = e
covers_in (latched latch ∷ items) z e = later_among latch.output (laid_signals items) z (covers_in items z e)
covers_in (held instance ∷ items) z e = covers_in items z e
covers_in (covered cover ∷ items) z e = by_kind (among_either cover.name (defined_in (covers_among items)) z e) (λ k. covers_in items z k)
  where
    by_kind : (z ≡ cover.name) ⊎ (is_among (defined_in (covers_among items)) z ≡ true) → (is_among (defined_in (covers_among items)) z ≡ true → is_among (laid_signals items) z ≡ true) → is_among (cover.name ∷ laid_signals items) z ≡ true
    by_kind (inl k) more = subst (λ (t : Word). is_among (cover.name ∷ laid_signals items) t ≡ true) (sym k) (first_among cover.name (laid_signals items))
    by_kind (inr k) more = later_among cover.name (laid_signals items) z (more k)

-- Latch outputs and covers' names, each once and none among the others.
record AreParted (latches covers : List Word) : Type 0 where
  of_latches : Once latches
  of_covers : Once covers
  apart : (z : Word) → is_among latches z ≡ true → is_among covers z ≡ true → ⊥

parted : (items : List Item) → Once (laid_signals items) → AreParted (map (λ (latch : Latch). latch.output) (latches_among items)) (defined_in (covers_among items))
parted [] once = record { of_latches = tt; of_covers = tt; apart = λ z e f. false≢true e }
parted (held instance ∷ items) once = parted items once
parted (covered cover ∷ items) once =
    let rest = parted items once.1 in
    record {
      of_latches = rest.of_latches;
      of_covers = (not_so (is_among (defined_in (covers_among items)) cover.name) (λ e. never (is_among (laid_signals items) cover.name) (covers_in items cover.name e) once.0), rest.of_covers);
      apart = λ z e f. by_kind z e (among_either cover.name (defined_in (covers_among items)) z f) rest.apart;
    }
  where
    by_kind : (z : Word) → is_among (map (λ (latch : Latch). latch.output) (latches_among items)) z ≡ true → (z ≡ cover.name) ⊎ (is_among (defined_in (covers_among items)) z ≡ true)
        → ((z : Word) → is_among (map (λ (latch : Latch). latch.output) (latches_among items)) z ≡ true → is_among (defined_in (covers_among items)) z ≡ true → ⊥) → ⊥
    by_kind z e (inl k) more = never (is_among (laid_signals items) cover.name) (ap (is_among (laid_signals items)) (sym k) ∙ latches_in items z e) once.0
    by_kind z e (inr k) more = more z e k
parted (latched latch ∷ items) once =
    let rest = parted items once.1 in
    record {
      of_latches = (not_so (is_among (map (λ (latch : Latch). latch.output) (latches_among items)) latch.output) (λ e. never (is_among (laid_signals items) latch.output) (latches_in items latch.output e) once.0), rest.of_latches);
      of_covers = rest.of_covers;
      apart = λ z e f. by_kind z f (among_either latch.output (map (λ (latch : Latch). latch.output) (latches_among items)) z e) rest.apart;
    }
  where
    by_kind : (z : Word) → is_among (defined_in (covers_among items)) z ≡ true → (z ≡ latch.output) ⊎ (is_among (map (λ (latch : Latch). latch.output) (latches_among items)) z ≡ true)
        → ((z : Word) → is_among (map (λ (latch : Latch). latch.output) (latches_among items)) z ≡ true → is_among (defined_in (covers_among items)) z ≡ true → ⊥) → ⊥
    by_kind z f (inl k) more = never (is_among (laid_signals items) latch.output) (ap (is_among (laid_signals items)) (sym k) ∙ covers_in items z f) once.0
    by_kind z f (inr k) more = more z k f

-- plain words

plain_among : (words : List Word) (z : Word) → list_all is_plain words ≡ true → is_among words z ≡ true → is_plain z ≡ true
plain_among [] z h e = absurd (false≢true e)
plain_among (word ∷ words) z h e =
    let both = and_parts (is_plain word) (list_all is_plain words) h in
    by_kind (among_either word words z e) both.0 (λ k. plain_among words z both.1 k)
  where
    by_kind : (z ≡ word) ⊎ (is_among words z ≡ true) → is_plain word ≡ true → (is_among words z ≡ true → is_plain z ≡ true) → is_plain z ≡ true
    by_kind (inl k) here more = ap is_plain k ∙ here
    by_kind (inr k) here more = more k

pub wholes_define_once : WholesDefineOnce
wholes_define_once models main plain joins twice =
    let items = whole_items models main in
    let names = names_of main.inputs in
    let own = all_defined models main.items in
    let high = copies_within models (length models) main.items in
    let inside = reached models (length models) main.items in
    let j = nil_parts (joins_of_model models main) (flat_map (joins_of_model models) inside) (none_told _ joins) in
    let c = nil_parts (clashes_of_model models main) (flat_map (clashes_of_model models) inside) (none_told _ twice) in
    let once : Once (names ++ own) = subst Once (all_words models main) (once_by (definitions_in models main) c.0) in
    let parts = once_parts names own once in
    let all_plain : list_all is_plain (names ++ own) ≡ true = ap (list_all is_plain) (sym (all_words models main)) ∙ plain in
    let unmarked : (z : Word) (number : ℕ) (name : Word) → is_among (names ++ own) z ≡ true → z ≡ marked_name number name → ⊥ =
    λ z number name e g. never (list_any (λ b. b == 35) z) (ap (list_any (λ b. b == 35)) g ∙ has_its_mark number name) (no_mark z (plain_among (names ++ own) z all_plain e)) in
    let naming : IsNaming (λ z. z) own 0 high = record { one_to_one = λ a b e f g. g; unmarked = λ a number name e lo hi g. unmarked a number name (among_back names own a e) g } in
    let whole = expanded_once models (length models) (λ z. z) 0 high main.items (all_fit models (length models) main.items (all_join models main.items j.0) j.1 c.1) parts.1 (omega arith) naming in
    let split = parted items whole.once in
    let latches = map (λ (latch : Latch). latch.output) (latches_among items) in
    let covers = defined_in (covers_among items) in
    let signals = once_from latches covers split.of_latches split.of_covers split.apart in
    subst Once (sym (append_assoc names latches covers)) (once_from names (latches ++ covers) parts.0 signals (λ z e f. clash z e (whole.comes z (within z (among_parts latches covers z f))) unmarked parts.2))
  where
    within : (z : Word)
        → (is_among (map (λ (latch : Latch). latch.output) (latches_among (whole_items models main))) z ≡ true) ⊎ (is_among (defined_in (covers_among (whole_items models main))) z ≡ true)
        → is_among (laid_signals (whole_items models main)) z ≡ true
    within z (inl e) = latches_in (whole_items models main) z e
    within z (inr e) = covers_in (whole_items models main) z e

    clash : (z : Word) → is_among (names_of main.inputs) z ≡ true → Comes (λ z. z) (all_defined models main.items) 0 (copies_within models (length models) main.items) z
        → ((z : Word) (number : ℕ) (name : Word) → is_among (names_of main.inputs ++ all_defined models main.items) z ≡ true → z ≡ marked_name number name → ⊥)
        → ((z : Word) → is_among (names_of main.inputs) z ≡ true → is_among (all_defined models main.items) z ≡ true → ⊥) → ⊥
    clash z e (inl a) unmarked apart = apart z e (ap (is_among (all_defined models main.items)) a.2 ∙ a.1)
    clash z e (inr a) unmarked apart = unmarked z a.0 a.1 (among_front (names_of main.inputs) (all_defined models main.items) z e) a.4
