-- What is counted model by model is what is laid out, so that a whole keeps to the limits where no line passes them.
use Rattle.std.proofs.Common.{◌≡◌, ℕ, zero, suc, ◌+◌, ◌≤◌, ◌||◌, Bool, true, false, cond, List, [], ◌∷◌, ◌++◌, None, Some, length, map, nat_lt, refl, ap, sym, arith}
use Rattle.std.specs.Prelude.{sum_by}
use Rattle.std.proofs.lemmas.Bool.Decides.{nat_tests}
use Rattle.std.proofs.lemmas.List.{length-append, length-map}
use Rattle.std.proofs.lemmas.List.Concat.{length-flat_map}
use Rattle.std.proofs.lemmas.List.Sums.{sum_by-append, sum_by-cons}
use Rattle.edge_bits.specs.declared.limits.TheConstants.{MOST_SIGNALS, MOST_VARIABLES}
use Rattle.job_words.specs.Text.{Word}
use Rattle.blif_models.specs.declared.limits.Adding.{Adding}
use Rattle.blif_models.specs.Models.{Instance, Item, Latch, Model, Named, copies_within, covered, covers_among, expanded, held, items_in, joins_of, laid_out, latched, latches_among, model_of, name_within, names_of, whole_items}
use Rattle.blif_models.specs.ModelFaults.{adding_inputs, adding_of, by_line, latches_by, latches_in_all, passing_line, put_by_line, signals_by, signals_within}
use Rattle.blif_models.specs.Within.{WholesAreWithinLimits}

-- what is laid out

latches_behind : (items others : List Item) → latches_among (items ++ others) ≡ latches_among items ++ latches_among others
latches_behind [] others = refl
latches_behind (covered cover ∷ items) others = latches_behind items others
latches_behind (latched latch ∷ items) others = ap (λ t. latch ∷ t) (latches_behind items others)
latches_behind (held instance ∷ items) others = latches_behind items others

module _ (copy : ℕ → Instance → List Item) (inside count : Instance → ℕ) (rename : Word → Word) where
  laid_many : ((number : ℕ) (instance : Instance) → length (copy number instance) ≡ count instance) → (copies : ℕ) (items : List Item) → length (laid_out copy inside rename copies items) ≡ sum_by (signals_by count) items
  laid_many h copies [] = refl
  laid_many h copies (covered cover ∷ items) = omega (arith, laid_many h copies items, sum_by-cons (signals_by count) (covered cover) items)
  laid_many h copies (latched latch ∷ items) = omega (arith, laid_many h copies items, sum_by-cons (signals_by count) (latched latch) items)
  laid_many h copies (held instance ∷ items) =
      let rest = laid_out copy inside rename (suc (copies + inside instance)) items in
      omega (arith, length-append (copy (suc copies) instance) rest, h (suc copies) instance, laid_many h (suc (copies + inside instance)) items, sum_by-cons (signals_by count) (held instance) items)

  laid_latches : ((number : ℕ) (instance : Instance) → length (latches_among (copy number instance)) ≡ count instance) → (copies : ℕ) (items : List Item)
      → length (latches_among (laid_out copy inside rename copies items)) ≡ sum_by (latches_by count) items
  laid_latches h copies [] = refl
  laid_latches h copies (covered cover ∷ items) = omega (arith, laid_latches h copies items, sum_by-cons (latches_by count) (covered cover) items)
  laid_latches h copies (latched latch ∷ items) = omega (arith, laid_latches h copies items, sum_by-cons (latches_by count) (latched latch) items)
  laid_latches h copies (held instance ∷ items) =
      let here = copy (suc copies) instance in
      let rest = laid_out copy inside rename (suc (copies + inside instance)) items in
      omega (
        arith,
        ap length (latches_behind here rest),
        length-append (latches_among here) (latches_among rest),
        h (suc copies) instance,
        laid_latches h (suc (copies + inside instance)) items,
        sum_by-cons (latches_by count) (held instance) items,
      )

expanded_many : (models : List Model) (levels : ℕ) (rename : Word → Word) (copies : ℕ) (items : List Item) → length (expanded models levels rename copies items) ≡ signals_within models levels items
unfolding expanded signals_within
expanded_many models zero rename copies items = laid_many (λ number instance. []) (λ instance. 0) (λ instance. 0) rename (λ number instance. refl) copies items
expanded_many models (suc levels) rename copies items =
    laid_many (λ number instance. expanded models levels (name_within rename number (joins_of instance)) number (items_in (model_of models instance)))
    (λ instance. copies_within models levels (items_in (model_of models instance))) (λ instance. signals_within models levels (items_in (model_of models instance))) rename
    (λ number instance. expanded_many models levels (name_within rename number (joins_of instance)) number (items_in (model_of models instance))) copies items

expanded_latches : (models : List Model) (levels : ℕ) (rename : Word → Word) (copies : ℕ) (items : List Item) → length (latches_among (expanded models levels rename copies items)) ≡ latches_in_all models levels items
unfolding expanded latches_in_all
expanded_latches models zero rename copies items = laid_latches (λ number instance. []) (λ instance. 0) (λ instance. 0) rename (λ number instance. refl) copies items
expanded_latches models (suc levels) rename copies items =
    laid_latches (λ number instance. expanded models levels (name_within rename number (joins_of instance)) number (items_in (model_of models instance)))
    (λ instance. copies_within models levels (items_in (model_of models instance))) (λ instance. latches_in_all models levels (items_in (model_of models instance))) rename
    (λ number instance. expanded_latches models levels (name_within rename number (joins_of instance)) number (items_in (model_of models instance))) copies items

-- no more covers and latches than items
covers_few : (items : List Item) → length (latches_among items) + length (covers_among items) ≤ length items
covers_few [] = omega arith
covers_few (covered cover ∷ items) = omega (arith, covers_few items)
covers_few (latched latch ∷ items) = omega (arith, covers_few items)
covers_few (held instance ∷ items) = omega (arith, covers_few items)

-- what lines add

items_signals : (models : List Model) (levels : ℕ) (item : Item) (items : List Item) → signals_within models levels (item ∷ items) ≡ signals_within models levels (item ∷ []) + signals_within models levels items
unfolding signals_within
items_signals models zero item items = let f = signals_by (λ instance. 0) in omega (arith, sum_by-cons f item items, sum_by-cons f item [])
items_signals models (suc levels) item items =
    let f = signals_by (λ instance. signals_within models levels (items_in (model_of models instance))) in
    omega (arith, sum_by-cons f item items, sum_by-cons f item [])

items_latches : (models : List Model) (levels : ℕ) (item : Item) (items : List Item) → latches_in_all models levels (item ∷ items) ≡ latches_in_all models levels (item ∷ []) + latches_in_all models levels items
unfolding latches_in_all
items_latches models zero item items = let f = latches_by (λ instance. 0) in omega (arith, sum_by-cons f item items, sum_by-cons f item [])
items_latches models (suc levels) item items =
    let f = latches_by (λ instance. latches_in_all models levels (items_in (model_of models instance))) in
    omega (arith, sum_by-cons f item items, sum_by-cons f item [])

no_signals : (models : List Model) (levels : ℕ) → signals_within models levels [] ≡ 0
unfolding signals_within
no_signals models zero = refl
no_signals models (suc levels) = refl

no_latches : (models : List Model) (levels : ℕ) → latches_in_all models levels [] ≡ 0
unfolding latches_in_all
no_latches models zero = refl
no_latches models (suc levels) = refl

added_signals : (models : List Model) (items : List Item) → sum_by (λ (one : Adding). one.signals) (map (adding_of models) items) ≡ signals_within models (length models) items
added_signals models [] = sym (no_signals models (length models))
added_signals models (item ∷ items) =
    omega (arith, sum_by-cons (λ (one : Adding). one.signals) (adding_of models item) (map (adding_of models) items), added_signals models items, items_signals models (length models) item items)

added_latches : (models : List Model) (items : List Item) → sum_by (λ (one : Adding). one.inputs) (map (adding_of models) items) ≡ latches_in_all models (length models) items
added_latches models [] = sym (no_latches models (length models))
added_latches models (item ∷ items) =
    omega (arith, sum_by-cons (λ (one : Adding). one.inputs) (adding_of models item) (map (adding_of models) items), added_latches models items, items_latches models (length models) item items)

-- inputs count as both
named_signals : (named : List Named) → sum_by (λ (one : Adding). one.signals) (map adding_inputs named) ≡ sum_by (λ (one : Named). length one.words) named
named_signals [] = refl
named_signals (one ∷ named) =
    omega (arith, sum_by-cons (λ (one : Adding). one.signals) (adding_inputs one) (map adding_inputs named), named_signals named, sum_by-cons (λ (one : Named). length one.words) one named)

named_inputs : (named : List Named) → sum_by (λ (one : Adding). one.inputs) (map adding_inputs named) ≡ sum_by (λ (one : Named). length one.words) named
named_inputs [] = refl
named_inputs (one ∷ named) =
    omega (arith, sum_by-cons (λ (one : Adding). one.inputs) (adding_inputs one) (map adding_inputs named), named_inputs named, sum_by-cons (λ (one : Named). length one.words) one named)

-- lines in their order

put_sum : (f : Adding → ℕ) (one : Adding) (others : List Adding) → sum_by f (put_by_line one others) ≡ f one + sum_by f others
put_sum f one [] = sum_by-cons f one []
put_sum f one (other ∷ others) = by_cases (nat_lt other.line one.line) (put_sum f one others)
  where
    by_cases : (b : Bool) → sum_by f (put_by_line one others) ≡ f one + sum_by f others → sum_by f (cond b (other ∷ put_by_line one others) (one ∷ (other ∷ others))) ≡ f one + sum_by f (other ∷ others)
    by_cases true more = omega (arith, sum_by-cons f other (put_by_line one others), more, sum_by-cons f other others)
    by_cases false more = sum_by-cons f one (other ∷ others)

by_line_sum : (f : Adding → ℕ) (ones : List Adding) → sum_by f (by_line ones) ≡ sum_by f ones
by_line_sum f [] = refl
by_line_sum f (one ∷ others) = omega (arith, put_sum f one (by_line others), by_line_sum f others, sum_by-cons f one others)

-- The sums keep to the limits.
record AreFew (most_signals most_inputs signals inputs : ℕ) (ones : List Adding) : Type 0 where
  of_signals : signals + sum_by (λ (one : Adding). one.signals) ones ≤ most_signals
  of_inputs : inputs + sum_by (λ (one : Adding). one.inputs) ones ≤ most_inputs

none_passes : (most_signals most_inputs signals inputs : ℕ) (ones : List Adding) → signals ≤ most_signals → inputs ≤ most_inputs → passing_line most_signals most_inputs signals inputs ones ≡ None → AreFew most_signals most_inputs signals inputs ones
none_passes most_signals most_inputs signals inputs [] s i h = record { of_signals = omega (arith, s); of_inputs = omega (arith, i) }
none_passes most_signals most_inputs signals inputs (one ∷ others) s i h =
    by_cases (nat_lt most_signals (signals + one.signals)) (nat_lt most_inputs (inputs + one.inputs)) refl refl (λ s' i' k. none_passes most_signals most_inputs (signals + one.signals) (inputs + one.inputs) others s' i' k) h
  where
    by_cases : (a b : Bool) → nat_lt most_signals (signals + one.signals) ≡ a → nat_lt most_inputs (inputs + one.inputs) ≡ b
        → (signals + one.signals ≤ most_signals → inputs + one.inputs ≤ most_inputs → passing_line most_signals most_inputs (signals + one.signals) (inputs + one.inputs) others ≡ None
        → AreFew most_signals most_inputs (signals + one.signals) (inputs + one.inputs) others)
        → cond (a || b) (Some one.line) (passing_line most_signals most_inputs (signals + one.signals) (inputs + one.inputs) others) ≡ None → AreFew most_signals most_inputs signals inputs (one ∷ others)
    by_cases true b e f more k = cc
    by_cases false true e f more k = cc
    by_cases false false e f more k =
        let s' : signals + one.signals ≤ most_signals = grind (arith, nat_tests) in
        let i' : inputs + one.inputs ≤ most_inputs = grind (arith, nat_tests) in
        let rest = more s' i' k in
        record {
          of_signals = omega (arith, rest.of_signals, sum_by-cons (λ (one : Adding). one.signals) one others);
          of_inputs = omega (arith, rest.of_inputs, sum_by-cons (λ (one : Adding). one.inputs) one others);
        }

pub wholes_are_within_limits : WholesAreWithinLimits
wholes_are_within_limits models main none =
    let items = whole_items models main in
    let named = map adding_inputs main.inputs in
    let added = map (adding_of models) main.items in
    let few = none_passes MOST_SIGNALS MOST_VARIABLES 0 0 (by_line (named ++ added)) (omega arith) (omega arith) none in
    let signals = λ (one : Adding). one.signals in
    let inputs = λ (one : Adding). one.inputs in
    let many = length-flat_map (λ (one : Named). one.words) main.inputs in
    let latches = length-append (names_of main.inputs) (map (λ (latch : Latch). latch.output) (latches_among items)) in
    let outputs = length-map (latches_among items) (λ (latch : Latch). latch.output) in
    record {
      inputs = omega (
        arith,
        latches,
        outputs,
        many,
        few.of_inputs,
        by_line_sum inputs (named ++ added),
        sum_by-append inputs named added,
        named_inputs main.inputs,
        added_latches models main.items,
        expanded_latches models (length models) (λ name. name) 0 main.items,
      );
      signals = omega (
        arith,
        latches,
        outputs,
        many,
        covers_few items,
        few.of_signals,
        by_line_sum signals (named ++ added),
        sum_by-append signals named added,
        named_signals main.inputs,
        added_signals models main.items,
        expanded_many models (length models) (λ name. name) 0 main.items,
      );
    }
