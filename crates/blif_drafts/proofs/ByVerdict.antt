-- What is judged of models by number is so by name.
use Rattle.std.proofs.Common.{◌≡◌, ℕ, ◌==◌, ◌<◌, Bool, true, false, Bor, List, [], ◌∷◌, Option, Some, None, drop, get_or, length, map, refl, ap, sym, ◌∙◌, subst, arith, ⊎_elim}
use Rattle.std.specs.Prelude.{All, slice_get}
use Rattle.std.proofs.lemmas.Bool.{false≢true}
use Rattle.std.proofs.lemmas.List.Elements.{All-cons, All-head, All-nil, All-tail}
use Rattle.std.proofs.lemmas.Option.{slice_get_within}
use Rattle.job_words.specs.Text.{Word}
use Rattle.blif_order.specs.Orders.{is_in, reads_of}
use Rattle.blif_order.proofs.Walks.{or_cases, same_number}
use Rattle.blif_models.specs.declared.expanding.Outcome.{Outcome}
use Rattle.blif_models.specs.declared.expanding.Outcome.TheVariants as outcomes
use Rattle.blif_models.specs.declared.limits.Adding.{Adding}
use Rattle.blif_models.specs.declared.numbered.NumberedModel.{NumberedModel}
use Rattle.blif_models.specs.Additions.{AreRising, lines_of}
use Rattle.blif_models.specs.Agreement.{HasLines, IsMain, NamedOutcomeIs}
use Rattle.blif_models.specs.Expanding.{OutcomeIs}
use Rattle.blif_models.specs.Graphs.{AreReached, is_met, is_reached}
use Rattle.blif_models.specs.Kept.{reached_models}
use Rattle.blif_models.specs.Layouts.{main_table, model_at}
use Rattle.blif_models.specs.ModelFaults.{adding_inputs, formal_lines, least, model_lines, twice_lines}
use Rattle.blif_models.specs.ModelGraphs.{IsGraph}
use Rattle.blif_models.specs.Models.{Model, Use}
use Rattle.blif_models.specs.Numberings.{IsNumbering, words_at}
use Rattle.blif_models.specs.NumberedGraphs.{all_held}
use Rattle.blif_models.specs.Unfinished.{AreMore}
use Rattle.blif_models.proofs.Arranged.{reached_self}
use Rattle.blif_models.proofs.HoldingThemselves.{agrees}
use Rattle.blif_models.proofs.NumberedGraphs.{numbered_are_graphs}
use Rattle.blif_models.proofs.KeptModels.{kept_many, kept_names}
use Rattle.blif_models.proofs.KeptReached.{kept_agree}
use Rattle.blif_models.proofs.LinedCovers.{wholes_are_lined}
use Rattle.blif_models.proofs.Searches.{closed_over}
use Rattle.blif_models.proofs.TurningLines.{some_model}
use Rattle.blif_formals.specs.declared.calls.Call.{Call}
use Rattle.blif_formals.specs.declared.clashes.Definition.{Definition}
use Rattle.blif_drafts.specs.declared.drafts.DraftItem.{DraftItem}
use Rattle.blif_formals.specs.declared.formals.Callees.{Callees}
use Rattle.blif_formals.specs.declared.titles.Heading.{Heading}
use Rattle.blif_drafts.specs.declared.verdicts.Verdict.{Verdict}
use Rattle.blif_drafts.specs.declared.verdicts.Verdict.TheVariants as verdicts
use Rattle.blif_formals.specs.ByNames.{AreDefinitionsOf}
use Rattle.blif_formals.specs.Calls.{held_by, nameless_lines}
use Rattle.blif_drafts.specs.Entries.{AreModelsBy}
use Rattle.blif_formals.specs.Formals.{IsFormalLine}
use Rattle.blif_formals.specs.Lines.{HaveLines}
use Rattle.blif_formals.specs.Twice.{AreDefining, clash_lines, input_definitions}
use Rattle.blif_drafts.specs.Verdicts.{AreLined, Comes, IsMisnaming, LaidOut, VerdictIs}
use Rattle.blif_formals.proofs.Calling.{calls_agree}
use Rattle.blif_formals.proofs.DefinedTwice.{twice_lines_agree}
use Rattle.blif_formals.proofs.InLines.{lines_agree}
use Rattle.blif_drafts.proofs.Judging.{AreTold, apart_models, graph, many_holds, met_model}
use Rattle.blif_drafts.proofs.Numbered.{all_numbered, lines_are, many_numbered, numbering}

in_all : (P : ℕ → Type 0) (ns : List ℕ) (n : ℕ) → All P ns → is_in ns n ≡ true → P n
in_all P [] n a e = absurd (false≢true e)
in_all P (k ∷ ns) n a e = ⊎_elim (λ here. subst P (same_number k n here) (All-head P k ns a)) (λ later. in_all P ns n (All-tail P k ns a) later) (or_cases (k == n) (is_in ns n) e)

defined_within : (words : List (List Word)) (m names : ℕ) → length (words_at words m) ≡ names → (ones : List Definition) (uses : List Use) → AreDefinitionsOf words m ones uses → All (λ one. one.name < names) ones
defined_within words m names e [] [] a = All-nil (λ (one : Definition). one.name < names)
defined_within words m names e [] (u ∷ uses) a = absurd a
defined_within words m names e (one ∷ ones) [] a = absurd a
defined_within words m names e (one ∷ ones) (u ∷ uses) a = All-cons (λ (one : Definition). one.name < names) one ones (subst (λ n. one.name < n) e (a.0).0) (defined_within words m names e ones uses a.2)

module _ (titles : List Word) (models : List Model) (callees : Callees) (headings : List Heading) (items : List (List DraftItem)) (calls : List (List Call)) (joined : List (List (List (Bor (List ℕ))))) (told : AreTold titles models callees headings items calls joined)
    (met : List Bool) (main : Model) (at : slice_get models 0 ≡ Some main) (reached : AreReached (map (held_by callees.titles.now) calls) 0 met) where
  abbrev holds : List (List ℕ)
  holds = map (held_by callees.titles.now) calls

  pub named_lines : least (model_lines models main (drop 1 models)) ≡ least (nameless_lines headings callees.titles.now calls met)
  named_lines = calls_agree.nameless titles models headings callees.titles.now calls met main told.named (apart_models titles models callees headings items calls joined told) at reached

  pub joined_lines : (line : Option ℕ) → IsFormalLine callees calls joined met line → least (formal_lines models main) ≡ line
  joined_lines line is = is titles models headings main told.named told.words_are told.have (apart_models titles models callees headings items calls joined told) at reached

  module _ (inputs : List (List Definition)) (inputs_many : length inputs ≡ length models) (inputs_are : (m : ℕ) (model : Model) → slice_get models m ≡ Some model → AreDefinitionsOf callees.names.now m (get_or inputs m []) (input_definitions model))
      (numbered : List NumberedModel) (by : AreModelsBy callees items calls joined met numbered) where
    many : length numbered ≡ length models
    many = many_numbered titles models callees headings items calls joined told met main at reached (is_met met) (λ m. refl) numbered by

    is_numbering : (among : ℕ → Bool) → ((m : ℕ) → among m ≡ is_met met m) → IsNumbering models among callees.names.now numbered
    is_numbering among alike = numbering titles models callees headings items calls joined told met main at reached among alike numbered by

    -- what the main model reaches by numbers was met
    pub alike : (m : ℕ) → is_reached (all_held numbered) (length numbered) 0 m ≡ is_met met m
    alike m = by_cases (is_met met m) refl (is_reached (all_held numbered) (length numbered) 0 m) refl
      where
        among : ℕ → Bool
        among = is_met met

        first : is_met met 0 ≡ true
        first = reached.reached 0 ∙ reached_self holds (length holds) 0

        held_graph : IsGraph models (is_met met) (all_held numbered)
        held_graph = numbered_are_graphs.graph models (is_met met) callees.names.now numbered (is_numbering (is_met met) (λ m. refl))

        inner : (n c : ℕ) → is_met met n ≡ true → is_in (reads_of (all_held numbered) n) c ≡ true → is_met met c ≡ true
        inner n c e i =
            let x = met_model titles models callees headings items calls joined told met main at reached n e in
            in_all (λ k. is_met met k ≡ true) (reads_of (all_held numbered) n) c (held_graph.closed n x.0 e x.1) i

        both : (x : Model) → slice_get models m ≡ Some x → is_met met m ≡ true → is_reached (all_held numbered) (length numbered) 0 m ≡ is_met met m
        both x found e =
            let apart = apart_models titles models callees headings items calls joined told in
            ap (λ k. is_reached (all_held numbered) k 0 m) many
            ∙ sym (agrees models (is_met met) (all_held numbered) held_graph (λ k n one other i j. apart k n one other refl refl) (length models) 0 m main x first e at found)
            ∙ agrees models (λ m. true) holds (graph titles models callees headings items calls joined told met main at reached) apart (length models) 0 m main x refl refl at found
            ∙ ap (λ k. is_reached holds k 0 m) (sym (many_holds titles models callees headings items calls joined told met main at reached)) ∙ sym (reached.reached m)

        by_cases : (t : Bool) → is_met met m ≡ t → (u : Bool) → is_reached (all_held numbered) (length numbered) 0 m ≡ u → is_reached (all_held numbered) (length numbered) 0 m ≡ is_met met m
        by_cases true e u f = let x = met_model titles models callees headings items calls joined told met main at reached m e in both x.0 x.1 e
        by_cases false e false f = f ∙ sym e
        by_cases false e true f = absurd (false≢true (sym e ∙ closed_over (all_held numbered) met inner (length numbered) 0 m first f))

    have_lines : HaveLines models numbered 0
    have_lines m model i found = lines_are titles models callees headings items calls joined told met main at reached (is_reached (all_held numbered) (length numbered) 0) alike numbered by m model i found

    pub are_defining : AreDefining callees.interfaces.now inputs numbered
    are_defining = record {
      numbered = all_numbered titles models callees headings items calls joined told met main at reached (is_met met) (λ m. refl) numbered by;
      interfaces_many = told.many_faces ∙ sym many;
      ports = λ m lt. told.ports m (subst (λ k. m < k) many lt) ∙ sym (by.names m lt);
      inputs_many = inputs_many ∙ sym many;
      names = λ m lt. let x = some_model models m (subst (λ k. m < k) many lt) in defined_within callees.names.now m (model_at numbered m).names (sym (by.names m lt)) (get_or inputs m []) (input_definitions x.0) (inputs_are m x.0 x.1);
    }

    pub twice_told : least (clash_lines callees.interfaces.now inputs numbered met) ≡ least (twice_lines models main)
    twice_told =
        twice_lines_agree models callees.names.now callees.interfaces.now inputs numbered holds met 0 main (record {
          numbering = is_numbering (is_met met) (λ m. refl);
          interfaces_are = λ m model i found. told.have m model refl found;
          inputs_are = λ m model i found. inputs_are m model found;
          lines_are = λ m model i found. lines_are titles models callees headings items calls joined told met main at reached (is_met met) (λ k. refl) numbered by m model i found;
          as_many = many;
        }) (graph titles models callees headings items calls joined told met main at reached) (apart_models titles models callees headings items calls joined told)
        (many_holds titles models callees headings items calls joined told met main at reached) at reached

    first_reached : is_reached (all_held numbered) (length numbered) 0 0 ≡ true
    first_reached = reached_self (all_held numbered) (length numbered) 0

    is_main : IsMain models (is_reached (all_held numbered) (length numbered) 0) callees.names.now numbered 0 main
    is_main = record {
      numbering = is_numbering (is_reached (all_held numbered) (length numbered) 0) alike;
      within = λ m i. let x = met_model titles models callees headings items calls joined told met main at reached m (sym (alike m) ∙ i) in subst (λ k. m < k) (sym many) (slice_get_within models m x.0 x.1);
      as_many = many;
      is_among = first_reached;
      is_there = at;
    }

    pub entries_rise : AreRising (lines_of (model_at numbered 0).entries)
    entries_rise = lines_agree.entries models numbered 0 main told.rising at (have_lines 0 main first_reached at)

    pub outcome_is : (added : List Adding) (outcome : Outcome) → added ≡ map adding_inputs main.inputs → OutcomeIs (reached_models numbered 0) 0 added outcome → NamedOutcomeIs models callees.names.now main outcome
    outcome_is added outcome same is = lines_agree.outcome models callees.names.now numbered 0 main outcome is_main told.rising have_lines (subst (λ ones. OutcomeIs (reached_models numbered 0) 0 ones outcome) same is)

    laid_out : (added : List Adding) (outcome : Outcome) → OutcomeIs (reached_models numbered 0) 0 added outcome → LaidOut callees.names.now outcome
    laid_out added (outcomes.Turning line) is = tt
    laid_out added (outcomes.TooMany line) is = tt
    laid_out added (outcomes.Expanded whole) is =
        let among = is_reached (all_held numbered) (length numbered) 0 in
        let names : (m : ℕ) → m < length numbered → (model_at (reached_models numbered 0) m).names ≡ length (words_at callees.names.now m) = λ m lt. kept_names among 0 m numbered ∙ by.names m lt in
        let first : 0 < length numbered = (let low = slice_get_within models 0 main at in omega (arith, low, many)) in
        record {
          within = is.1.within;
          own_names = subst (λ n. AreMore (main_table 0 n) whole.spots.items) (names 0 first) is.1.own_names;
          one_spot = is.1.one_spot;
          named = λ i one there.
              let in_it = is.1.named i one there in
              let lt : one.model < length numbered = omega (arith, in_it.0, kept_many among 0 numbered) in
              (omega (arith, lt, many, told.many_names), subst (λ n. one.name < n) (names one.model lt) in_it.1);
        }

    are_lined : (added : List Adding) (outcome : Outcome) → OutcomeIs (reached_models numbered 0) 0 added outcome → AreLined models outcome
    are_lined added (outcomes.Turning line) is = tt
    are_lined added (outcomes.TooMany line) is = tt
    are_lined added (outcomes.Expanded whole) is =
        wholes_are_lined models (is_reached (all_held numbered) (length numbered) 0) callees.names.now (reached_models numbered 0) 0 main whole (kept_agree.named models callees.names.now numbered 0 main is_main)
        (λ m one i found. subst (HasLines one) (sym (kept_agree.same numbered 0 m i)) (have_lines m one i found)) is.1

    pub comes : (added : List Adding) (verdict : Verdict) → added ≡ map adding_inputs main.inputs → IsMisnaming callees headings calls joined met None → Comes callees.interfaces.now inputs numbered met added verdict → VerdictIs models callees.names.now main verdict
    comes added (verdicts.Nameless line) same none is = absurd is
    comes added (verdicts.Misjoined line) same none is = absurd is
    comes added (verdicts.Twice line) same none is = (named_lines ∙ none.0, joined_lines None none.1, sym twice_told ∙ is)
    comes added (verdicts.Comes outcome) same none is = (named_lines ∙ none.0, joined_lines None none.1, sym twice_told ∙ is.0, outcome_is added outcome same is.1, laid_out added outcome is.1, are_lined added outcome is.1)

  pub misnamed : (verdict : Verdict) → IsMisnaming callees headings calls joined met (Some verdict) → VerdictIs models callees.names.now main verdict
  misnamed (verdicts.Nameless line) is = named_lines ∙ is
  misnamed (verdicts.Misjoined line) is = (named_lines ∙ is.0, joined_lines (Some line) is.1)
  misnamed (verdicts.Twice line) is = absurd is
  misnamed (verdicts.Comes outcome) is = absurd is
