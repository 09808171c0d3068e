-- Which models instances are of, by the numbers of their names.
use Rattle.std.proofs.Common.{◌≡◌, ℕ, zero, suc, Bool, true, false, cond, List, [], ◌∷◌, ◌++◌, Option, Some, None, drop, filter, flat_map, get_or, length, map, option_map, option_to_list, refl, ap, sym, ◌∙◌, subst, if◌then◌else◌}
use Rattle.std.specs.Prelude.{slice_get}
use Rattle.std.specs.Option.{is_none}
use Rattle.job_words.specs.Text.{Word}
use Rattle.blif_order.specs.Orders.{reads_of}
use Rattle.blif_models.specs.Agreement.{AreApart}
use Rattle.blif_models.specs.Graphs.{AreReached}
use Rattle.blif_models.specs.ModelFaults.{all_reached, instances_in, is_misnamed, least, model_lines, names_no_model}
use Rattle.blif_models.specs.ModelGraphs.{AreHeld, IsGraph}
use Rattle.blif_models.specs.Models.{Instance, Model, called_by, model_in, model_of}
use Rattle.blif_formals.specs.declared.calls.Call.{Call}
use Rattle.blif_formals.specs.declared.titles.Heading.{Heading}
use Rattle.blif_formals.specs.declared.titles.Title.{Title}
use Rattle.blif_formals.specs.Calls.{AreAllCallsOf, AreCallsOf, AreNamed, CallsAgree, held_by, model_by, nameless_lines, unknown_lines}
use Rattle.blif_formals.specs.Clashes.{least_of}
use Rattle.blif_formals.specs.Reached.{lines_met}
use Rattle.blif_formals.specs.Titles.{AreHeadingsOf, IsTitleOf, first_titled, got_model, has_title, is_again, mistitled_lines}
use Rattle.blif_formals.proofs.Clashing.{least_both}
use Rattle.blif_formals.proofs.ReachedLines.{reached_lines_agree}
use Rattle.blif_formals.proofs.Titled.{titles_agree}

-- a title's first model is there
got_there : (words : List Word) (models : List Model) (headings : List Heading) → AreHeadingsOf words models headings → (n m : ℕ) → first_titled headings n ≡ Some m → (x : Model) × (slice_get models m ≡ Some x)
got_there words [] [] a n m e = cc
got_there words [] (h ∷ headings) a n m e = absurd a
got_there words (x ∷ models) [] a n m e = absurd a
got_there words (x ∷ models) (h ∷ headings) a n m e = by_cases (has_title n h) e (first_titled headings n) refl (got_there words models headings a.2 n)
  where
    by_cases : (t : Bool) → (if t then Some 0 else option_map suc (first_titled headings n)) ≡ Some m → (o : Option ℕ) → first_titled headings n ≡ o → ((k : ℕ) → first_titled headings n ≡ Some k → (y : Model) × (slice_get models k ≡ Some y))
        → (y : Model) × (slice_get (x ∷ models) m ≡ Some y)
    by_cases true f o g more = let same : 0 ≡ m = cc in (x, ap (slice_get (x ∷ models)) (sym same))
    by_cases false f None g more = let bad : None ≡ Some m = sym (ap (option_map suc) g) ∙ f in cc
    by_cases false f (Some k) g more =
        let both : Some (suc k) ≡ Some m = sym (ap (option_map suc) g) ∙ f in
        let same : suc k ≡ m = cc in
        let rest = more k g in
        (rest.0, ap (slice_get (x ∷ models)) (sym same) ∙ rest.1)

module _ (words : List Word) (models : List Model) (headings : List Heading) (titles : List (Option Title)) (calls : List (List Call)) (named : AreNamed words models headings titles calls) where
  first_model : (n : ℕ) → model_by titles (Some n) ≡ first_titled headings n
  first_model n = ap (option_map (λ (title : Title). title.model)) (named.titles_are n) ∙ by_cases (first_titled headings n)
    where
      by_cases : (o : Option ℕ) → option_map (λ (title : Title). title.model) (option_map (λ m. record { model = m; again = is_again headings n }) o) ≡ o
      by_cases None = refl
      by_cases (Some m) = refl

  pub found_by : (name : Option Word) (title : Option ℕ) → IsTitleOf words name title → model_in models name ≡ got_model models (model_by titles title)
  found_by None None is = refl
  found_by None (Some n) is = absurd is
  found_by (Some word) None is = absurd is
  found_by (Some word) (Some n) is = titles_agree.called words models headings n word named.one_number named.headings_are is ∙ ap (got_model models) (sym (first_model n))

  pub there : (title : Option ℕ) (m : ℕ) → model_by titles title ≡ Some m → (x : Model) × (slice_get models m ≡ Some x)
  there None m e = cc
  there (Some n) m e = got_there words models headings named.headings_are n m (sym (first_model n) ∙ e)

  held : (instances : List Instance) (ones : List Call) → AreCallsOf words instances ones → map (slice_get models) (held_by titles ones) ≡ map Some (flat_map (λ instance. option_to_list (model_of models instance)) instances)
  held [] [] a = refl
  held [] (call ∷ ones) a = absurd a
  held (instance ∷ instances) [] a = absurd a
  held (instance ∷ instances) (call ∷ ones) a = by_cases (model_by titles call.title) refl (model_of models instance) (found_by (called_by instance) call.title a.1) (held instances ones a.2)
    where
      by_cases : (o : Option ℕ) → model_by titles call.title ≡ o → (p : Option Model) → p ≡ got_model models (model_by titles call.title)
          → map (slice_get models) (held_by titles ones) ≡ map Some (flat_map (λ k. option_to_list (model_of models k)) instances)
          → map (slice_get models) (option_to_list (model_by titles call.title) ++ held_by titles ones) ≡ map Some (option_to_list p ++ flat_map (λ k. option_to_list (model_of models k)) instances)
      by_cases None e p f more =
          (λ j. map (slice_get models) (option_to_list (e j) ++ held_by titles ones)) ∙ more ∙ sym (λ j. map Some (option_to_list ((f ∙ ap (got_model models) e) j) ++ flat_map (λ k. option_to_list (model_of models k)) instances))
      by_cases (Some m) e p f more =
          let x = there call.title m e in
          (λ j. map (slice_get models) (option_to_list (e j) ++ held_by titles ones)) ∙ (λ j. x.1 j ∷ more j)
          ∙ sym (λ j. map Some (option_to_list ((f ∙ ap (got_model models) e ∙ x.1) j) ++ flat_map (λ k. option_to_list (model_of models k)) instances))

  held_at : (ms : List Model) (cs : List (List Call)) → AreAllCallsOf words ms cs → (m : ℕ) (model : Model) → slice_get ms m ≡ Some model → AreHeld models model.items (reads_of (map (held_by titles) cs) m)
  held_at [] [] a m model at = cc
  held_at [] (ones ∷ cs) a m model at = absurd a
  held_at (x ∷ ms) [] a m model at = absurd a
  held_at (x ∷ ms) (ones ∷ cs) a zero model at =
      let same : x ≡ model = cc in
      subst (λ (y : Model). AreHeld models y.items (held_by titles ones)) same (held (instances_in x.items) ones a.0)
  held_at (x ∷ ms) (ones ∷ cs) a (suc m) model at = held_at ms cs a.1 m model at

  pub held_graph : IsGraph models (λ m. true) (map (held_by titles) calls)
  held_graph = record {
    told = λ m model i at. held_at models calls named.calls_are m model at;
    closed = λ m model i at k d lt. refl;
  }

  told : Model → List ℕ
  told model = map (λ instance. instance.line) (filter (names_no_model models) (instances_in model.items))

  unknown : (instances : List Instance) (ones : List Call) → AreCallsOf words instances ones → map (λ instance. instance.line) (filter (names_no_model models) instances) ≡ unknown_lines titles ones
  unknown [] [] a = refl
  unknown [] (call ∷ ones) a = absurd a
  unknown (instance ∷ instances) [] a = absurd a
  unknown (instance ∷ instances) (call ∷ ones) a =
      ap (λ t. map (λ (k : Instance). k.line) (cond t (instance ∷ filter (names_no_model models) instances) (filter (names_no_model models) instances))) (ap is_none (found_by (called_by instance) call.title a.1) ∙ none (model_by titles call.title) refl)
      ∙ by_cases (is_none (model_by titles call.title)) (unknown instances ones a.2)
    where
      none : (o : Option ℕ) → model_by titles call.title ≡ o → is_none (got_model models o) ≡ is_none o
      none None e = refl
      none (Some m) e = ap is_none (there call.title m e).1

      by_cases : (t : Bool) → map (λ (k : Instance). k.line) (filter (names_no_model models) instances) ≡ unknown_lines titles ones
          → map (λ (k : Instance). k.line) (cond t (instance ∷ filter (names_no_model models) instances) (filter (names_no_model models) instances))
          ≡ map (λ (k : Call). k.line) (cond t (call ∷ filter (λ k. is_none (model_by titles k.title)) ones) (filter (λ k. is_none (model_by titles k.title)) ones))
      by_cases true more = λ j. sym a.0 j ∷ more j
      by_cases false more = more

  unknown_at : (ms : List Model) (cs : List (List Call)) → AreAllCallsOf words ms cs → (m : ℕ) (model : Model) → slice_get ms m ≡ Some model → get_or (map (λ ones. least (unknown_lines titles ones)) cs) m None ≡ least (told model)
  unfolding told
  unknown_at [] [] a m model at = cc
  unknown_at [] (ones ∷ cs) a m model at = absurd a
  unknown_at (x ∷ ms) [] a m model at = absurd a
  unknown_at (x ∷ ms) (ones ∷ cs) a zero model at =
      let same : x ≡ model = cc in
      ap least (sym (unknown (instances_in x.items) ones a.0)) ∙ ap (λ (y : Model). least (map (λ (k : Instance). k.line) (filter (names_no_model models) (instances_in y.items)))) same
  unknown_at (x ∷ ms) (ones ∷ cs) a (suc m) model at = unknown_at ms cs a.1 m model at

  pub as_many : (ms : List Model) (cs : List (List Call)) → AreAllCallsOf words ms cs → length (map (held_by titles) cs) ≡ length ms
  as_many [] [] a = refl
  as_many [] (ones ∷ cs) a = absurd a
  as_many (x ∷ ms) [] a = absurd a
  as_many (x ∷ ms) (ones ∷ cs) a = ap suc (as_many ms cs a.1)

  nameless : (met : List Bool) (main : Model) → AreApart models (λ m. true) → slice_get models 0 ≡ Some main → AreReached (map (held_by titles) calls) 0 met → least (model_lines models main (drop 1 models)) ≡ least (nameless_lines headings titles calls met)
  unfolding told
  nameless met main apart at reached =
      least_both (map (λ (model : Model). model.line) (filter (is_misnamed models) (drop 1 models))) (flat_map told (all_reached models main))
      ∙ (λ j. least_of (least (titles_agree.misnamed words models headings named.one_number named.headings_are j))
      (sym (reached_lines_agree models (map (held_by titles) calls) met (map (λ ones. least (unknown_lines titles ones)) calls) told 0 main held_graph apart (as_many models calls named.calls_are) at reached
      (λ m one is there. unknown_at models calls named.calls_are m one is)) j))
      ∙ sym (least_both (mistitled_lines headings) (lines_met met (map (λ ones. least (unknown_lines titles ones)) calls)))

pub calls_agree : CallsAgree
calls_agree = record {
  graph = λ words models headings titles calls named. held_graph words models headings titles calls named;
  nameless = λ words models headings titles calls met main named apart at reached. nameless words models headings titles calls named met main apart at reached;
}
