-- Texts of one model without latches and instances: by the definitions for one model and by those for several they have no fault, and the
-- same circuit.
use Rattle.std.proofs.Common.{◌≡◌, ℕ, zero, suc, ◌+◌, ◌==◌, ◌≤◌, Bool, true, false, not, cond, List, [], ◌∷◌, ◌++◌, length, map, flat_map, filter, find, nat_lt, Some, None, option_map, option_to_list, refl, ap, sym, ◌∙◌, subst, append-nil, arith, length-append}
use Rattle.std.specs.Prelude.{sum_by}
use Rattle.std.specs.List.{list_all}
use Rattle.std.specs.Option.{option_or}
use Rattle.std.specs.Bool.{then_some}
use Rattle.std.specs.Str.{bytes_eq}
use Rattle.std.proofs.lemmas.Bool.{and_from, or_from, or_parts}
use Rattle.std.proofs.lemmas.Bool.Decides.{nat_tests}
use Rattle.std.proofs.lemmas.List.{length-map, map-append}
use Rattle.std.proofs.lemmas.List.Folds.{list_all-append, list_all-map}
use Rattle.std.proofs.lemmas.List.Sums.{sum_by-append, sum_by-cons}
use Rattle.edge_bits.specs.declared.limits.TheConstants.{MOST_SIGNALS, MOST_VARIABLES}
use Rattle.job_words.specs.Text.{is_among}
use Rattle.blif_models.specs.declared.limits.Adding.{Adding}
use Rattle.blif_models.specs.Circuits.{Circuit, Cover, defined_in, is_settled, is_signal}
use Rattle.blif_models.specs.ModelFaults.{adding_inputs, adding_of, all_reached, by_line, clash_with, clashes, cyclic_line, definitions_by, definitions_in, formal_lines, holding_lines, holds_itself, instances_in, is_misjoined, latches_in_all, least, model_lines, names_no_model, passing_line, put_by_line, reached, signals_within, too_many_line, twice_lines, undefined_line}
use Rattle.blif_models.specs.Models.{Instance, Item, Latch, Model, Named, Use, circuit_from, covered, covers_among, latches_among, model_of, names_of, uses_of, uses_on, whole_items}
use Rattle.blif_models.specs.Plain.{HoldsNone}
use Rattle.blif_models.proofs.PlainModels.{whole_plain}
use Rattle.blif_net.specs.declared.faults.FaultKind.TheVariants as kinds
use Rattle.blif_text.specs.Text.{Word, Line}
use Rattle.blif_text.specs.Statements.{said}
use Rattle.blif_net.specs.PlainTexts.{Context, at_start, behind, circuit_in, circuit_of, covers_in, cyclic_cover, cycle_at, fault_on, faulty_line, uses, PlainTextsAgree}
use Rattle.blif_net.specs.PlainTexts as one_model_faults
use Rattle.blif_net.specs.Faults.{last_number}
use Rattle.blif_net.specs.Circuits as several
use Rattle.blif_net.specs.Faults as several_faults
use Rattle.blif_wholes.specs.Defined.{Once}
use Rattle.blif_wholes.proofs.Alone.{Alone}
use Rattle.blif_wholes.proofs.Words.{never, once_from, words_named}
use Rattle.blif_net.proofs.Distinct.{alone_at_start, alone_behind}
use Rattle.blif_net.proofs.NoFaults.{all_flat, filtered_none, no_map, none_found, none_of}
use Rattle.blif_net.proofs.PlainLines.{AreFew, UsesPass, close_agrees, few_behind, pass_behind, plain_faults, plain_left}

-- what lines add

put_sum : (f : Adding → ℕ) (one : Adding) (others : List Adding) → sum_by f (put_by_line one others) ≡ f one + sum_by f others
put_sum f one [] = sum_by-cons f one []
put_sum f one (other ∷ others) = by_cases (nat_lt other.line one.line) (put_sum f one others)
  where
    by_cases : (b : Bool) → sum_by f (put_by_line one others) ≡ f one + sum_by f others → sum_by f (cond b (other ∷ put_by_line one others) (one ∷ (other ∷ others))) ≡ f one + sum_by f (other ∷ others)
    by_cases true more = omega (arith, sum_by-cons f other (put_by_line one others), more, sum_by-cons f other others)
    by_cases false more = sum_by-cons f one (other ∷ others)

by_line_sum : (f : Adding → ℕ) (ones : List Adding) → sum_by f (by_line ones) ≡ sum_by f ones
by_line_sum f [] = refl
by_line_sum f (one ∷ others) = omega (arith, put_sum f one (by_line others), by_line_sum f others, sum_by-cons f one others)

abbrev signals_added : Adding → ℕ
signals_added one = one.signals

abbrev inputs_added : Adding → ℕ
inputs_added one = one.inputs

none_passes : (most_signals most_inputs s i : ℕ) (ones : List Adding) → s + sum_by signals_added ones ≤ most_signals → i + sum_by inputs_added ones ≤ most_inputs → passing_line most_signals most_inputs s i ones ≡ None
none_passes most_signals most_inputs s i [] h k = refl
none_passes most_signals most_inputs s i (one ∷ others) h k =
    let all_signals = sum_by-cons signals_added one others in
    let all_inputs = sum_by-cons inputs_added one others in
    let a : nat_lt most_signals (s + one.signals) ≡ false = grind (arith, nat_tests, all_signals) in
    let b : nat_lt most_inputs (i + one.inputs) ≡ false = grind (arith, nat_tests, all_inputs) in
    let rest = none_passes most_signals most_inputs (s + one.signals) (i + one.inputs) others (omega (arith, h, all_signals)) (omega (arith, k, all_inputs)) in
    λ j. cond (or_from (nat_lt most_signals (s + one.signals)) (nat_lt most_inputs (i + one.inputs)) a b j) (Some one.line) (rest j)

named_sum : (f : Adding → ℕ) → ((one : Named) → f (adding_inputs one) ≡ length one.words) → (named : List Named) → sum_by f (map adding_inputs named) ≡ length (names_of named)
named_sum f h [] = refl
named_sum f h (one ∷ named) = omega (arith, sum_by-cons f (adding_inputs one) (map adding_inputs named), h one, named_sum f h named, length-append one.words (names_of named))

cover_signals : (models : List Model) (levels : ℕ) (cover : Cover) → signals_within models levels (covered cover ∷ []) ≡ 1
unfolding signals_within
cover_signals models zero cover = refl
cover_signals models (suc levels) cover = refl

cover_latches : (models : List Model) (levels : ℕ) (cover : Cover) → latches_in_all models levels (covered cover ∷ []) ≡ 0
unfolding latches_in_all
cover_latches models zero cover = refl
cover_latches models (suc levels) cover = refl

covers_signals : (models : List Model) (covers : List Cover) → sum_by signals_added (map (adding_of models) (map covered covers)) ≡ length covers
covers_signals models [] = refl
covers_signals models (cover ∷ covers) =
    omega (arith, sum_by-cons signals_added (adding_of models (covered cover)) (map (adding_of models) (map covered covers)), cover_signals models (length models) cover, covers_signals models covers)

covers_inputs : (models : List Model) (covers : List Cover) → sum_by inputs_added (map (adding_of models) (map covered covers)) ≡ 0
covers_inputs models [] = refl
covers_inputs models (cover ∷ covers) =
    omega (arith, sum_by-cons inputs_added (adding_of models (covered cover)) (map (adding_of models) (map covered covers)), cover_latches models (length models) cover, covers_inputs models covers)

-- definitions

abbrev word_of : Use → Word
word_of one = one.word

clash_free : (one : Use) (others : List Use) → is_among (map word_of others) one.word ≡ false → flat_map (clash_with one) others ≡ []
clash_free one [] h = refl
clash_free one (other ∷ others) h =
    let both = or_parts (bytes_eq one.word other.word) (is_among (map word_of others) one.word) h in
    let rest = clash_free one others both.1 in
    λ j. cond (both.0 j) (cond (nat_lt one.line other.line) other.line one.line ∷ []) [] ++ rest j

no_clashes : (ones : List Use) → Once (map word_of ones) → clashes ones ≡ []
no_clashes [] h = refl
no_clashes (one ∷ others) h =
    let here = clash_free one others h.0 in
    let rest = no_clashes others h.1 in
    λ j. here j ++ rest j

covers_back : (models : List Model) (covers : List Cover) → map word_of (flat_map (definitions_by models) (map covered covers)) ≡ defined_in covers
covers_back models [] = refl
covers_back models (cover ∷ covers) = ap (λ more. cover.name ∷ more) (covers_back models covers)

-- items that are covers

covers_of : (covers : List Cover) → covers_among (map covered covers) ≡ covers
covers_of [] = refl
covers_of (cover ∷ covers) = ap (λ more. cover ∷ more) (covers_of covers)

latches_of : (covers : List Cover) → latches_among (map covered covers) ≡ []
latches_of [] = refl
latches_of (cover ∷ covers) = latches_of covers

instances_of : (covers : List Cover) → instances_in (map covered covers) ≡ []
instances_of [] = refl
instances_of (cover ∷ covers) = instances_of covers

holds_none : (covers : List Cover) → HoldsNone (map covered covers)
holds_none [] = tt
holds_none (cover ∷ covers) = holds_none covers

reached_none : (models : List Model) (levels : ℕ) (items : List Item) → instances_in items ≡ [] → reached models levels items ≡ []
unfolding reached
reached_none models zero items e = refl
reached_none models (suc levels) items e =
    ap (flat_map (λ (instance : Instance). flat_map (λ (model : Model). model ∷ reached models levels model.items) (option_to_list (model_of models instance)))) e

-- a main model that has the inputs, outputs and covers of a context, and nothing else
module _ (c : Context) (main : Model) (same_inputs : names_of main.inputs ≡ c.inputs) (same_outputs : names_of main.outputs ≡ c.outputs) (same_items : main.items ≡ map covered (covers_in c)) where
  abbrev models : List Model
  models = main ∷ []

  abbrev items : List Item
  items = map covered (covers_in c)

  whole_is : whole_items models main ≡ items
  whole_is = whole_plain models main (subst HoldsNone (sym same_items) (holds_none (covers_in c))) ∙ same_items

  circuit_is : circuit_from main items ≡ circuit_in c
  circuit_is =
      let latches = latches_of (covers_in c) in
      let ins : (circuit_from main items).inputs ≡ c.inputs = (λ j. same_inputs j ++ map (λ (latch : Latch). latch.output) (latches j)) ∙ append-nil c.inputs in
      let outs : (circuit_from main items).outputs ≡ c.outputs = (λ j. same_outputs j ++ map (λ (latch : Latch). latch.input) (latches j)) ∙ append-nil c.outputs in
      let covers = covers_of (covers_in c) in
      λ j. record { inputs = ins j; outputs = outs j; covers = covers j }

  no_instances : instances_in main.items ≡ []
  no_instances = ap instances_in same_items ∙ instances_of (covers_in c)

  over_reached : {X : Type 0} (f : Model → List X) → f main ≡ [] → flat_map f (all_reached models main) ≡ []
  over_reached f e = ap (λ (others : List Model). flat_map f (main ∷ others)) (reached_none models (length models) main.items no_instances) ∙ ap (λ here. here ++ []) e

  no_lines : (p : Model → Instance → Bool) → flat_map (λ (model : Model). map (λ (instance : Instance). instance.line) (filter (p model) (instances_in model.items))) (all_reached models main) ≡ []
  no_lines p =
      over_reached (λ (model : Model). map (λ (instance : Instance). instance.line) (filter (p model) (instances_in model.items)))
      (ap (λ (instances : List Instance). map (λ (instance : Instance). instance.line) (filter (p main) instances)) no_instances)

  none_twice : Alone c.inputs (defined_in (covers_in c)) → twice_lines models main ≡ []
  none_twice alone =
      let ins = words_named main.inputs ∙ same_inputs in
      let defined = ap (λ its. map word_of (flat_map (definitions_by models) its)) same_items ∙ covers_back models (covers_in c) in
      let words : map word_of (definitions_in models main) ≡ c.inputs ++ defined_in (covers_in c) =
      map-append word_of (flat_map (λ one. uses_on one.line one.words) main.inputs) (flat_map (definitions_by models) main.items) ∙ (λ j. ins j ++ defined j) in
      over_reached (λ model. clashes (definitions_in models model))
      (no_clashes (definitions_in models main) (subst Once (sym words) (once_from c.inputs (defined_in (covers_in c)) alone.inputs alone.covers (λ z e f. never (is_among (defined_in (covers_in c)) z) f (alone.apart z e)))))

  none_many : AreFew c → too_many_line MOST_SIGNALS MOST_VARIABLES models main ≡ None
  none_many few =
      let named = map adding_inputs main.inputs in
      let added = map (adding_of models) main.items in
      let count : length (names_of main.inputs) ≡ length c.inputs = ap length same_inputs in
      let signals : sum_by signals_added added ≡ length (covers_in c) = ap (λ its. sum_by signals_added (map (adding_of models) its)) same_items ∙ covers_signals models (covers_in c) in
      let latches : sum_by inputs_added added ≡ 0 = ap (λ its. sum_by inputs_added (map (adding_of models) its)) same_items ∙ covers_inputs models (covers_in c) in
      none_passes MOST_SIGNALS MOST_VARIABLES 0 0 (by_line (named ++ added))
      (omega (
        arith,
        few.signals,
        length-append c.inputs (defined_in (covers_in c)),
        length-map (covers_in c) (λ (cover : Cover). cover.name),
        count,
        signals,
        by_line_sum signals_added (named ++ added),
        sum_by-append signals_added named added,
        named_sum signals_added (λ one. refl) main.inputs,
      ))
      (omega (arith, few.inputs, count, latches, by_line_sum inputs_added (named ++ added), sum_by-append inputs_added named added, named_sum inputs_added (λ one. refl) main.inputs))

  uses_pass : (p : Word → Bool) → UsesPass p c → list_all (λ (one : Use). p one.word) (uses_of main items) ≡ true
  uses_pass p u =
      let q : Use → Bool = λ one. p one.word in
      let of_outputs = flat_map (λ (one : Named). uses_on one.line one.words) main.outputs in
      let of_covers = flat_map (λ (cover : Cover). uses_on cover.line cover.ins) (covers_among items) in
      let of_latches = flat_map (λ (latch : Latch). uses_on latch.line (latch.input ∷ [])) (latches_among items) in
      let on : (line : ℕ) (words : List Word) → list_all q (uses_on line words) ≡ list_all p words = λ line words. list_all-map q (λ (word : Word). record { word = word; line = line }) words in
      let outs : list_all q of_outputs ≡ true =
      all_flat q (λ (one : Named). uses_on one.line one.words) main.outputs ∙ (λ j. list_all (λ (one : Named). on one.line one.words j) main.outputs)
      ∙ sym (all_flat p (λ (one : Named). one.words) main.outputs) ∙ ap (list_all p) same_outputs ∙ u.outputs in
      let reads : list_all q of_covers ≡ true =
      all_flat q (λ (cover : Cover). uses_on cover.line cover.ins) (covers_among items) ∙ (λ j. list_all (λ (cover : Cover). on cover.line cover.ins j) (covers_of (covers_in c) j)) ∙ u.reads in
      let latches : list_all q of_latches ≡ true = ap (λ ones. list_all q (flat_map (λ (latch : Latch). uses_on latch.line (latch.input ∷ [])) ones)) (latches_of (covers_in c)) in
      list_all-append q (of_outputs ++ of_covers) of_latches
      ∙ and_from (list_all q (of_outputs ++ of_covers)) (list_all q of_latches) (list_all-append q of_outputs of_covers ∙ and_from (list_all q of_outputs) (list_all q of_covers) outs reads) latches

  none_undefined : UsesPass (is_signal (circuit_in c)) c → undefined_line main items ≡ None
  none_undefined u =
      ap (λ (circuit : Circuit). least (map (λ (one : Use). one.line) (filter (λ (one : Use). not (is_signal circuit one.word)) (uses_of main items)))) circuit_is
      ∙ ap (λ (ones : List Use). least (map (λ (one : Use). one.line) ones)) (filtered_none (λ (one : Use). is_signal (circuit_in c) one.word) (uses_of main items) (uses_pass (is_signal (circuit_in c)) u))

  none_cyclic : list_all (is_settled (circuit_in c)) (covers_in c) ≡ true → cyclic_line main items ≡ None
  none_cyclic h =
      ap (λ (circuit : Circuit). least (map (λ (cover : Cover). cover.line) (filter (λ (cover : Cover). not (is_settled circuit cover)) circuit.covers))) circuit_is
      ∙ ap (λ (covers : List Cover). least (map (λ (cover : Cover). cover.line) covers)) (filtered_none (is_settled (circuit_in c)) (covers_in c) h)

  -- no kind of fault is there
  none_in : (lines : List Line) → AreFew c → Alone c.inputs (defined_in (covers_in c)) → UsesPass (is_signal (circuit_in c)) c → list_all (is_settled (circuit_in c)) (covers_in c) ≡ true → (length c.outputs == 0) ≡ false
      → several_faults.models_fault lines models ≡ None
  none_in lines few alone used settled some =
      let model_lines_none : model_lines models main [] ≡ [] = no_lines (λ model. names_no_model models) in
      let formal_none : formal_lines models main ≡ [] = no_lines (λ model instance. is_misjoined (model_of models instance) instance) in
      let twice_none = none_twice alone in
      let holding_none : holding_lines models main ≡ [] = no_lines (holds_itself models) in
      let many_none = none_many few in
      let undefined_none = none_undefined used in
      let cyclic_none = none_cyclic settled in
      let outputs_none : several_faults.no_outputs lines main items ≡ None =
      ap (λ (circuit : Circuit). then_some (length circuit.outputs == 0) (several_faults.fault_at kinds.NoOutputs (last_number lines))) circuit_is ∙ ap (λ b. then_some b (several_faults.fault_at kinds.NoOutputs (last_number lines))) some in
      let expanded : several_faults.expanded_fault lines main (whole_items models main) ≡ None =
      ap (several_faults.expanded_fault lines main) whole_is
      ∙ (λ j. option_or (option_map (several_faults.fault_at kinds.Undefined) (undefined_none j)) (option_or (option_map (several_faults.fault_at kinds.Cycle) (cyclic_none j)) (outputs_none j))) in
      λ j. option_or (option_map (several_faults.fault_at kinds.Model) (least (model_lines_none j)))
      (option_or (option_map (several_faults.fault_at kinds.Formal) (least (formal_none j)))
      (option_or (option_map (several_faults.fault_at kinds.Twice) (least (twice_none j)))
      (option_or (option_map (several_faults.fault_at kinds.Cycle) (least (holding_none j))) (option_or (option_map (several_faults.fault_at kinds.TooMany) (many_none j)) (expanded j)))))

some_outputs : (n line : ℕ) → cond (n == 0) (Some (several_faults.fault_at kinds.NoOutputs line)) None ≡ None → (n == 0) ≡ false
some_outputs n line h = by_cases (n == 0) h
  where
    by_cases : (b : Bool) → cond b (Some (several_faults.fault_at kinds.NoOutputs line)) None ≡ None → b ≡ false
    by_cases true k = cc
    by_cases false k = refl

pub plain_texts_agree : PlainTextsAgree
plain_texts_agree lines h faultless =
    let c = behind at_start lines in
    let d = several.behind several.at_start lines in
    let main = (several.close d).current in
    let left = close_agrees c d (plain_left lines h) in
    let same_models : several.models_in d ≡ main ∷ [] = ap (λ (closed : List Model). closed ++ main ∷ []) left.closed in
    let at_lines = none_of (faulty_line at_start lines) (option_or (one_model_faults.undefined_line lines) (option_or (cyclic_cover (circuit_of lines)) (one_model_faults.no_outputs lines))) faultless in
    let at_names = none_of (one_model_faults.undefined_line lines) (option_or (cyclic_cover (circuit_of lines)) (one_model_faults.no_outputs lines)) at_lines.1 in
    let at_covers = none_of (cyclic_cover (circuit_of lines)) (one_model_faults.no_outputs lines) at_names.1 in
    let sig = is_signal (circuit_in c) in
    let few = few_behind lines at_lines.0 in
    let alone = alone_behind at_start lines at_lines.0 alone_at_start in
    let used_in = none_found (λ (line : Line). list_all sig (uses (said line))) lines (no_map (λ (line : Line). fault_on line kinds.Undefined) (find (λ (line : Line). not (list_all sig (uses (said line)))) lines) at_names.0) in
    let used = pass_behind sig at_start lines used_in (record { outputs = refl; reads = refl }) in
    let settled = none_found (is_settled (circuit_in c)) (covers_in c) (no_map cycle_at (find (λ (cover : Cover). not (is_settled (circuit_in c) cover)) (covers_in c)) at_covers.0) in
    let some = some_outputs (length c.outputs) (last_number lines) at_covers.1 in
    let lines_none : several_faults.faulty_line several.at_start lines ≡ None = plain_faults lines h ∙ at_lines.0 in
    let models_none : several_faults.models_fault lines (several.models_in d) ≡ None = ap (several_faults.models_fault lines) same_models ∙ none_in c main left.inputs left.outputs left.items lines few alone used settled some in (
      λ j. option_or (lines_none j) (models_none j),
      ap several.circuit_of_models same_models ∙ ap (circuit_from main) (whole_is c main left.inputs left.outputs left.items) ∙ circuit_is c main left.inputs left.outputs left.items,
    )
