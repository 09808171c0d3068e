-- Where each word of the lines is a name and nothing is wrong with models, the inputs and outputs of the whole are names.
use Rattle.std.proofs.Common.{◌≡◌, ℕ, zero, suc, ◌+◌, ◌<◌, ◌==◌, ◌&&◌, not, Bool, true, false, cond, List, [], ◌∷◌, ◌++◌, append-nil, codes, drop, filter, find, flat_map, length, length-append, map, Option, Some, None, option_map, refl, ap, sym, ◌∙◌, arith}
use Rattle.std.specs.Prelude.{option_to_list}
use Rattle.std.specs.Int.Digits.{AllBelowBase, digits_of}
use Rattle.std.specs.List.{list_all, list_any}
use Rattle.std.specs.Str.{bytes_eq}
use Rattle.std.proofs.lemmas.Bool.{and_from, and_parts, false≢true}
use Rattle.std.proofs.lemmas.Bool.Decides.{nat_tests}
use Rattle.std.proofs.lemmas.Int.Digits.{all_below_base_digits_of}
use Rattle.std.proofs.lemmas.List.Folds.{list_all-append, list_all-map}
use Rattle.job_words.specs.Classes.{has_bytes}
use Rattle.job_words.specs.Text.{is_among}
use Rattle.blif_models.specs.Circuits.{Circuit, some_again}
use Rattle.blif_models.specs.ModelFaults.{all_reached, formal_inputs, formal_lines, formal_outputs, instances_in, is_join, is_misjoined, joins_well, least, reached}
use Rattle.blif_models.specs.Models.{Instance, Item, Join, Latch, Model, called_by, circuit_from, copies_within, covered, expanded, has_name, held, items_in, join_of, joins_of, laid_out, latched, latches_among, model_in, model_of, name_by, name_within, names_of, numeral, whole_items}
use Rattle.blif_text.specs.Text.{Line, Word}
use Rattle.blif_net.specs.Circuits.{at_start, behind, circuit_of, circuit_of_models, close, models_in}
use Rattle.blif_net.specs.Dumped.{is_name, is_name_byte}
use Rattle.blif_net.specs.Faults.{fault_in, faulty_line, models_fault}
use Rattle.blif_net.proofs.LineWords.{current_passes, item_passes, model_passes, models_pass}
use Rattle.blif_net.proofs.NamedLines.{lines_named}
use Rattle.blif_net.proofs.NoFaults.{all_behind, all_flat, all_two, all_weaker, found_passes, no_lines, none_of}
use Rattle.blif_net.proofs.PlainWords.{some_bytes}
use Rattle.blif_net.proofs.Sound.{faultless_parts}

-- names of copies

digit_byte : (d : ℕ) → d < 10 → is_name_byte (48 + d) ≡ true
digit_byte d h = grind (arith, nat_tests)

digits_bytes : (digits : List ℕ) → AllBelowBase 10 digits → list_all is_name_byte (map (λ d. 48 + d) digits) ≡ true
digits_bytes [] h = refl
digits_bytes (d ∷ digits) h = and_from (is_name_byte (48 + d)) (list_all is_name_byte (map (λ e. 48 + e) digits)) (digit_byte d h.0) (digits_bytes digits h.1)

marked_named : (number : ℕ) (name : Word) → is_name name ≡ true → is_name (numeral number ++ codes "#" ++ name) ≡ true
marked_named number name h =
    let front = numeral number ++ codes "#" in
    let own = and_parts (has_bytes name) (list_all is_name_byte name) h in
    let digits = digits_bytes (digits_of 10 number) (all_below_base_digits_of 10 number (omega arith)) in
    let marked : list_all is_name_byte front ≡ true = list_all-append is_name_byte (numeral number) (codes "#") ∙ and_from (list_all is_name_byte (numeral number)) true digits refl in
    and_from (has_bytes (front ++ name)) (list_all is_name_byte (front ++ name)) (some_bytes (front ++ name) (omega (arith, length-append front name, length-append (numeral number) (codes "#"))))
    (list_all-append is_name_byte front name ∙ and_from (list_all is_name_byte front) (list_all is_name_byte name) marked own.1)

-- what is renamed stays a name
abbrev KeepsNames : (Word → Word) → Type 0
KeepsNames rename = (name : Word) → is_name name ≡ true → is_name (rename name) ≡ true

within_named : (rename : Word → Word) (number : ℕ) (joins : List Join) → KeepsNames rename → list_all (λ join. is_name join.actual) joins ≡ true → KeepsNames (name_within rename number joins)
within_named rename number joins keeps h name n = by_found (find (λ (join : Join). bytes_eq join.formal name) joins) refl
  where
    by_found : (o : Option Join) → find (λ (join : Join). bytes_eq join.formal name) joins ≡ o → is_name (name_by rename (numeral number ++ codes "#" ++ name) (option_map (λ (join : Join). join.actual) o)) ≡ true
    by_found None e = marked_named number name n
    by_found (Some join) e = keeps join.actual (found_passes (λ (one : Join). is_name one.actual) (λ (one : Join). bytes_eq one.formal name) joins join h e)

actual_named : (word : Word) → (is_name word && is_join word) ≡ true → is_name (join_of word).actual ≡ true
actual_named word h =
    let join = join_of word in
    let both = and_parts (is_name word) (is_join word) h in
    let bytes = (and_parts (has_bytes word) (list_all is_name_byte word) both.0).1 in
    let some = (and_parts (list_any (λ b. b == 61) word && not (length join.formal == 0)) (not (length join.actual == 0)) both.1).1 in
    and_from (has_bytes join.actual) (list_all is_name_byte join.actual) some (all_behind is_name_byte (length join.formal + 1) word bytes)

joins_named : (words : List Word) → list_all is_name words ≡ true → list_all is_join words ≡ true → list_all (λ join. is_name join.actual) (map join_of words) ≡ true
joins_named words h k =
    list_all-map (λ (join : Join). is_name join.actual) join_of words
    ∙ all_weaker (λ word. is_name word && is_join word) (λ word. is_name (join_of word).actual) words actual_named (all_two is_name is_join words h k)

-- instances that join well

abbrev joins_right : List Model → Instance → Bool
joins_right models instance = not (is_misjoined (model_of models instance) instance)

abbrev all_join : List Model → Model → Bool
all_join models one = list_all (joins_right models) (instances_in one.items)

right_words : (one : Model) (instance : Instance) → not (is_misjoined (Some one) instance) ≡ true → list_all is_join (drop 1 instance.words) ≡ true
right_words one instance h =
    let words = drop 1 instance.words in
    let formals = map (λ (join : Join). join.formal) (joins_of instance) in
    let known = list_all (is_among (formal_inputs one ++ formal_outputs one)) formals in
    let well : joins_well one words formals ≡ true = twice (joins_well one words formals) h in
    let first = and_parts (list_all is_join words && known && not (some_again [] formals)) (list_all (is_among formals) (formal_inputs one)) well in
    let second = and_parts (list_all is_join words && known) (not (some_again [] formals)) first.0 in
    (and_parts (list_all is_join words) known second.0).0
  where
    twice : (b : Bool) → not (not b) ≡ true → b ≡ true
    twice true h = refl
    twice false h = h

none_kept : (bad : Instance → Bool) (ones : List Instance) → list_all (λ one. false) (filter bad ones) ≡ true → list_all (λ one. not (bad one)) ones ≡ true
none_kept bad [] h = refl
none_kept bad (one ∷ ones) h = by_cases (bad one) h (none_kept bad ones)
  where
    by_cases : (b : Bool) → list_all (λ (other : Instance). false) (cond b (one ∷ filter bad ones) (filter bad ones)) ≡ true → (list_all (λ (other : Instance). false) (filter bad ones) ≡ true → list_all (λ other. not (bad other)) ones ≡ true)
        → (not b && list_all (λ other. not (bad other)) ones) ≡ true
    by_cases true k more = absurd (false≢true k)
    by_cases false k more = more k

none_joined_badly : (models : List Model) (main : Model) → least (formal_lines models main) ≡ None → list_all (all_join models) (all_reached models main) ≡ true
none_joined_badly models main h =
    let badly : Model → List Instance = λ one. filter (λ instance. is_misjoined (model_of models instance) instance) (instances_in one.items) in
    let line : Instance → ℕ = λ instance. instance.line in
    let lines : Model → List ℕ = λ one. map line (badly one) in
    let all = all_reached models main in
    all_weaker (λ one. list_all (λ n. false) (lines one)) (all_join models) all
    (λ one e. none_kept (λ instance. is_misjoined (model_of models instance) instance) (instances_in one.items) (sym (list_all-map (λ n. false) line (badly one)) ∙ e))
    (sym (all_flat (λ n. false) lines all) ∙ ap (list_all (λ n. false)) (no_lines (flat_map lines all) h))

-- the latches of the whole

abbrev has_names : Latch → Bool
has_names one = is_name one.input && is_name one.output

abbrev latch_passes : Item → Bool
latch_passes (latched one) = has_names one
latch_passes _ = true

module _ (models : List Model) (copy : ℕ → Instance → List Item) (inside : Instance → ℕ) (rename : Word → Word) (keeps : KeepsNames rename) (good : Instance → Bool)
    (inner : (number : ℕ) (instance : Instance) → list_all is_name (drop 1 instance.words) ≡ true → good instance ≡ true → list_all latch_passes (copy number instance) ≡ true) where
  laid_named : (copies : ℕ) (items : List Item) → list_all (item_passes is_name) items ≡ true → list_all good (instances_in items) ≡ true → list_all latch_passes (laid_out copy inside rename copies items) ≡ true
  laid_named copies [] h k = refl
  laid_named copies (covered cover ∷ items) h k = laid_named copies items (and_parts (item_passes is_name (covered cover)) (list_all (item_passes is_name) items) h).1 k
  laid_named copies (latched one ∷ items) h k =
      let both = and_parts (is_name one.input && is_name one.output) (list_all (item_passes is_name) items) h in
      let own = and_parts (is_name one.input) (is_name one.output) both.0 in
      and_from (is_name (rename one.input) && is_name (rename one.output)) (list_all latch_passes (laid_out copy inside rename copies items))
      (and_from (is_name (rename one.input)) (is_name (rename one.output)) (keeps one.input own.0) (keeps one.output own.1)) (laid_named copies items both.1 k)
  laid_named copies (held instance ∷ items) h k =
      let both = and_parts (list_all is_name (drop 1 instance.words)) (list_all (item_passes is_name) items) h in
      let well = and_parts (good instance) (list_all good (instances_in items)) k in
      let here = copy (suc copies) instance in
      let rest = laid_out copy inside rename (suc (copies + inside instance)) items in
      list_all-append latch_passes here rest
      ∙ and_from (list_all latch_passes here) (list_all latch_passes rest) (inner (suc copies) instance both.0 well.0) (laid_named (suc (copies + inside instance)) items both.1 well.1)

none_expanded : (models : List Model) (levels : ℕ) (rename : Word → Word) (copies : ℕ) → expanded models levels rename copies [] ≡ []
unfolding expanded
none_expanded models zero rename copies = refl
none_expanded models (suc levels) rename copies = refl

module _ (models : List Model) (named : list_all (model_passes is_name) models ≡ true) where
  -- the model of an instance is one of them
  model_named : (o : Option Word) (one : Model) → model_in models o ≡ Some one → list_all (item_passes is_name) one.items ≡ true
  model_named None one e = cc
  model_named (Some word) one e =
      let rest = list_all is_name (names_of one.outputs) && list_all (item_passes is_name) one.items in
      let whole = found_passes (model_passes is_name) (has_name word) models one named e in
      (and_parts (list_all is_name (names_of one.outputs)) (list_all (item_passes is_name) one.items) (and_parts (list_all is_name (names_of one.inputs)) rest whole).1).1

  expanded_named : (levels : ℕ) (rename : Word → Word) (copies : ℕ) (items : List Item) → KeepsNames rename → list_all (item_passes is_name) items ≡ true → list_all (joins_right models) (instances_in items) ≡ true
      → list_all (all_join models) (reached models levels items) ≡ true → list_all latch_passes (expanded models levels rename copies items) ≡ true
  unfolding expanded reached
  expanded_named zero rename copies items keeps h k r = laid_named models (λ number instance. []) (λ instance. 0) rename keeps (joins_right models) (λ number instance w g. refl) copies items h k
  expanded_named (suc levels) rename copies items keeps h k r =
      laid_named models (λ number instance. expanded models levels (name_within rename number (joins_of instance)) number (items_in (model_of models instance))) (λ instance. copies_within models levels (items_in (model_of models instance)))
      rename keeps good
      (λ number instance w g. by_instance number instance w (and_parts (joins_right models instance) (list_all (all_join models) (through instance)) g) (λ one inner n h' k' r'. expanded_named levels inner number one.items n h' k' r')) copies items h
      (all_two (joins_right models) (λ instance. list_all (all_join models) (through instance)) (instances_in items) k (sym (all_flat (all_join models) through (instances_in items)) ∙ r))
    where
      through : Instance → List Model
      through instance = flat_map (λ (one : Model). one ∷ reached models levels one.items) (option_to_list (model_of models instance))

      good : Instance → Bool
      good instance = joins_right models instance && list_all (all_join models) (through instance)

      Deeper : ℕ → Type 0
      Deeper number = (one : Model) (inner : Word → Word) → KeepsNames inner → list_all (item_passes is_name) one.items ≡ true → list_all (joins_right models) (instances_in one.items) ≡ true
          → list_all (all_join models) (reached models levels one.items) ≡ true → list_all latch_passes (expanded models levels inner number one.items) ≡ true

      by_instance : (number : ℕ) (instance : Instance) → list_all is_name (drop 1 instance.words) ≡ true → (joins_right models instance ≡ true) × (list_all (all_join models) (through instance) ≡ true) → Deeper number
          → list_all latch_passes (expanded models levels (name_within rename number (joins_of instance)) number (items_in (model_of models instance))) ≡ true
      by_instance number instance w g deeper = by_model (model_of models instance) refl g.0 g.1
        where
          inner : Word → Word
          inner = name_within rename number (joins_of instance)

          by_model : (o : Option Model) → model_of models instance ≡ o → not (is_misjoined o instance) ≡ true → list_all (all_join models) (flat_map (λ (one : Model). one ∷ reached models levels one.items) (option_to_list o)) ≡ true
              → list_all latch_passes (expanded models levels inner number (items_in o)) ≡ true
          by_model None e well below = ap (list_all latch_passes) (none_expanded models levels inner number)
          by_model (Some one) e well below =
              let inside = reached models levels one.items in
              let both = and_parts (all_join models one) (list_all (all_join models) inside) (ap (list_all (all_join models)) (sym (append-nil (one ∷ inside))) ∙ below) in
              deeper one inner (within_named rename number (joins_of instance) keeps (joins_named (drop 1 instance.words) w (right_words one instance well))) (model_named (called_by instance) one e) both.0 both.1

-- the circuit

latches_named : (items : List Item) → list_all latch_passes items ≡ true → list_all has_names (latches_among items) ≡ true
latches_named [] h = refl
latches_named (covered cover ∷ items) h = latches_named items h
latches_named (held instance ∷ items) h = latches_named items h
latches_named (latched one ∷ items) h =
    let both = and_parts (has_names one) (list_all latch_passes items) h in and_from (has_names one) (list_all has_names (latches_among items)) both.0 (latches_named items both.1)

-- the names of a model's own and those that latches have
all_named : (own : List Word) (word : Latch → Word) (latches : List Latch) → list_all is_name own ≡ true → ((one : Latch) → has_names one ≡ true → is_name (word one) ≡ true) → list_all has_names latches ≡ true → list_all is_name (own ++ map word latches) ≡ true
all_named own word latches h each k =
    list_all-append is_name own (map word latches)
    ∙ and_from (list_all is_name own) (list_all is_name (map word latches)) h (list_all-map is_name word latches ∙ all_weaker has_names (λ one. is_name (word one)) latches each k)

abbrev HasNames : Circuit → Type 0
HasNames circuit = list_all is_name (circuit.inputs ++ circuit.outputs) ≡ true

main_named : (lines : List Line) (main : Model) (further : List Model) → list_all (model_passes is_name) (main ∷ further) ≡ true → models_fault lines (main ∷ further) ≡ None → HasNames (circuit_from main (whole_items (main ∷ further) main))
main_named lines main further h e =
    let models = main ∷ further in
    let circuit = circuit_from main (whole_items models main) in
    let below = reached models (length models) main.items in
    let p = faultless_parts lines main further e in
    let joined = and_parts (all_join models main) (list_all (all_join models) below) (none_joined_badly models main p.formal) in
    let outputs = list_all is_name (names_of main.outputs) in
    let items = list_all (item_passes is_name) main.items in
    let own = and_parts (list_all is_name (names_of main.inputs)) (outputs && items) (and_parts (model_passes is_name main) (list_all (model_passes is_name) further) h).0 in
    let rest = and_parts outputs items own.1 in
    let latches = latches_named (whole_items models main) (expanded_named models h (length models) (λ name. name) 0 main.items (λ name n. n) rest.1 joined.0 joined.1) in
    list_all-append is_name circuit.inputs circuit.outputs
    ∙ and_from (list_all is_name circuit.inputs) (list_all is_name circuit.outputs)
    (all_named (names_of main.inputs) (λ (one : Latch). one.output) (latches_among (whole_items models main)) own.0 (λ one k. (and_parts (is_name one.input) (is_name one.output) k).1) latches)
    (all_named (names_of main.outputs) (λ (one : Latch). one.input) (latches_among (whole_items models main)) rest.0 (λ one k. (and_parts (is_name one.input) (is_name one.output) k).0) latches)

models_named : (lines : List Line) (models : List Model) → list_all (model_passes is_name) models ≡ true → models_fault lines models ≡ None → HasNames (circuit_of_models models)
models_named lines [] h e = refl
models_named lines (main ∷ further) h e = main_named lines main further h e

pub circuit_named : (lines : List Line) → fault_in lines ≡ None → list_all is_name ((circuit_of lines).inputs ++ (circuit_of lines).outputs) ≡ true
circuit_named lines h =
    let c = close (behind at_start lines) in
    let both = none_of (faulty_line at_start lines) (models_fault lines (models_in (behind at_start lines))) h in
    let p = models_pass is_name lines (lines_named at_start lines both.0) in
    models_named lines (models_in (behind at_start lines))
    (list_all-append (model_passes is_name) c.closed (c.current ∷ []) ∙ and_from (list_all (model_passes is_name) c.closed) (model_passes is_name c.current && true) p.closed (and_from (model_passes is_name c.current) true (current_passes is_name c p) refl)) both.1
