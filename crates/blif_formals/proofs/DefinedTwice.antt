-- Signals that are defined twice, in the models that a main one reaches.
use Rattle.std.proofs.Common.{◌≡◌, ℕ, zero, suc, ◌<◌, ◌≤◌, Bool, true, false, nat_lt, List, [], ◌∷◌, ◌++◌, Option, Some, None, filter, flat_map, get_or, length, map, refl, ap, sym, ◌∙◌, subst, arith}
use Rattle.std.specs.Prelude.{All, slice_get}
use Rattle.std.proofs.lemmas.Bool.Decides.{nat_tests}
use Rattle.std.proofs.lemmas.List.{get_or_append_left, get_or_push, length-map, map-append}
use Rattle.std.proofs.lemmas.List.Elements.{All-append, All-cons, All-filter, All-head, All-map, All-nil, All-tail, All-weaker}
use Rattle.std.proofs.lemmas.Option.{slice_get_within}
use Rattle.job_words.specs.Text.{Word}
use Rattle.blif_models.specs.declared.numbered.Entry.{Entry}
use Rattle.blif_models.specs.declared.numbered.Entry.TheVariants as entries
use Rattle.blif_models.specs.declared.numbered.NumberedJoin.{NumberedJoin}
use Rattle.blif_models.specs.declared.numbered.NumberedModel.{NumberedModel}
use Rattle.blif_models.specs.Graphs.{is_met}
use Rattle.blif_models.specs.Layouts.{EntryIs, model_at, up_to}
use Rattle.blif_models.specs.ModelFaults as faults
use Rattle.blif_models.specs.ModelFaults.{least}
use Rattle.blif_models.specs.Models.{Model}
use Rattle.blif_models.proofs.GoingOn.{up_to_many}
use Rattle.blif_formals.specs.declared.clashes.Definition.{Definition}
use Rattle.blif_formals.specs.declared.interface.Interface.{Interface}
use Rattle.blif_formals.specs.Definitions.{JoinsNames, defined, definitions_by, is_output, ports_at}
use Rattle.blif_formals.specs.Joining.{port_of}
use Rattle.blif_formals.specs.Twice.{AreDefiningBy, TwiceLinesAgree, clash_first, clash_firsts, definitions_in, input_definitions}
use Rattle.blif_formals.proofs.ByNames.{clashes_agree}
use Rattle.blif_formals.proofs.Defining.{both_defined, definitions_agree}
use Rattle.blif_formals.proofs.ReachedLines.{reached_lines_agree}

-- what is told of the first so many numbers, one by one
at_number : (f : ℕ → Option ℕ) (count m : ℕ) → m < count → get_or (map f (up_to count)) m None ≡ f m
at_number f zero m lt = absurd (omega (arith, lt))
at_number f (suc count) m lt = ap (λ xs. get_or xs m None) (map-append f (up_to count) (count ∷ [])) ∙ by_test (nat_lt m count) refl (at_number f count m)
  where
    many : length (map f (up_to count)) ≡ count
    many = length-map (up_to count) f ∙ up_to_many count

    by_test : (t : Bool) → nat_lt m count ≡ t → (m < count → get_or (map f (up_to count)) m None ≡ f m) → get_or (map f (up_to count) ++ f count ∷ []) m None ≡ f m
    by_test true e before =
        let less : m < count = grind (arith, nat_tests) in
        get_or_append_left (map f (up_to count)) (f count ∷ []) None m (omega (arith, less, many)) ∙ before less
    by_test false e before =
        let past : count ≤ m = grind (arith, nat_tests) in
        let same : count ≡ m = omega (arith, past, lt) in
        get_or_push (map f (up_to count)) (f count) None m (many ∙ same) ∙ ap f same

-- entries by number define names of their model, and join names of others

module _ (interfaces : List Interface) (models : List NumberedModel) (many : length interfaces ≡ length models) (ports : (m : ℕ) → m < length models → length (ports_at interfaces m) ≡ (model_at models m).names) where
  joins_names : (names : ℕ) (entry : Entry) → EntryIs models names entry → JoinsNames interfaces entry
  joins_names names (entries.Cover cover) is = tt
  joins_names names (entries.Latch latch) is = tt
  joins_names names (entries.Instance instance) is = (
    subst (λ n. instance.model < n) (sym many) is.0,
    All-weaker (λ (join : NumberedJoin). (join.actual < names) × (join.formal < (model_at models instance.model).names)) (λ join. join.formal < length (ports_at interfaces instance.model))
        (λ join both. subst (λ n. join.formal < n) (sym (ports instance.model is.0)) both.1) instance.joins is.1,
  )

  defines_names : (names : ℕ) (entry : Entry) → EntryIs models names entry → All (λ (one : Definition). one.name < names) (definitions_by interfaces entry)
  defines_names names (entries.Cover cover) is = All-cons (λ (one : Definition). one.name < names) (defined cover.line cover.name) [] is.1 (All-nil (λ (one : Definition). one.name < names))
  defines_names names (entries.Latch latch) is = All-cons (λ (one : Definition). one.name < names) (defined latch.line latch.output) [] is.1 (All-nil (λ (one : Definition). one.name < names))
  defines_names names (entries.Instance instance) is =
      let p = λ (join : NumberedJoin). is_output (port_of (ports_at interfaces instance.model) join.formal) in
      All-map (λ (one : Definition). one.name < names) (λ (join : NumberedJoin). defined instance.line join.actual) (filter p instance.joins)
      (All-filter p (λ (join : NumberedJoin). join.actual < names) instance.joins
      (All-weaker (λ (join : NumberedJoin). (join.actual < names) × (join.formal < (model_at models instance.model).names)) (λ join. join.actual < names) (λ join both. both.0) instance.joins is.1))

  pub all_join : (names : ℕ) (ones : List Entry) → All (EntryIs models names) ones → All (JoinsNames interfaces) ones
  all_join names ones are = All-weaker (EntryIs models names) (JoinsNames interfaces) (joins_names names) ones are

  pub all_define : (names : ℕ) (ones : List Entry) → All (EntryIs models names) ones → All (λ (one : Definition). one.name < names) (flat_map (definitions_by interfaces) ones)
  all_define names [] are = All-nil (λ (one : Definition). one.name < names)
  all_define names (entry ∷ ones) are =
      All-append (λ (one : Definition). one.name < names) (definitions_by interfaces entry) (flat_map (definitions_by interfaces) ones) (defines_names names entry (All-head (EntryIs models names) entry ones are))
      (all_define names ones (All-tail (EntryIs models names) entry ones are))

-- by name

module _ (models : List Model) (words : List (List Word)) (interfaces : List Interface) (inputs : List (List Definition)) (numbered : List NumberedModel) (met : List Bool) (is : AreDefiningBy models (is_met met) words interfaces inputs numbered) where
  clash_is : (m : ℕ) (model : Model) → slice_get models m ≡ Some model → is_met met m ≡ true → clash_first interfaces inputs numbered m ≡ least (faults.clashes (faults.definitions_in models model))
  clash_is m model at i =
      ap least (clashes_agree words m (definitions_in interfaces (get_or inputs m []) (model_at numbered m)) (faults.definitions_in models model) (λ k j. is.numbering.apart m k j i)
      (both_defined words m (get_or inputs m []) (flat_map (definitions_by interfaces) (model_at numbered m).entries) (input_definitions model) (flat_map (faults.definitions_by models) model.items) (is.inputs_are m model i at)
      (definitions_agree models (is_met met) words interfaces m 0 model.items (model_at numbered m).entries is.interfaces_are (is.numbering.entries_are m model i at) (is.lines_are m model i at))))

pub twice_lines_agree : TwiceLinesAgree
twice_lines_agree models words interfaces inputs numbered holds met main model is graph apart many at reached =
    reached_lines_agree models holds met (clash_firsts interfaces inputs numbered (length numbered)) (λ one. faults.clashes (faults.definitions_in models one)) main model graph apart many at reached
    (λ m one there i. at_number (clash_first interfaces inputs numbered) (length numbered) m (subst (λ n. m < n) (sym is.as_many) (slice_get_within models m one there)) ∙ clash_is models words interfaces inputs numbered met is m one there i)
