-- Models by number, which have what stands in their drafts, are the models by name.
use Rattle.std.proofs.Common.{◌≡◌, ℕ, zero, suc, ◌+◌, ◌==◌, ◌<◌, ◌||◌, Bool, true, false, Bor, List, [], ◌∷◌, ◌++◌, Option, Some, drop, get_or, length, map, option_to_list, refl, ap, sym, ◌∙◌, subst, arith}
use Rattle.std.specs.Prelude.{All, slice_get}
use Rattle.std.proofs.lemmas.Bool.{or_right}
use Rattle.std.proofs.lemmas.List.Elements.{All-cons, All-from_get_or, All-nil}
use Rattle.std.proofs.lemmas.List.Folds.{list_any-append}
use Rattle.std.proofs.lemmas.Option.{slice_get_within}
use Rattle.job_words.specs.Text.{Word}
use Rattle.blif_order.specs.Orders.{is_in, reads_of}
use Rattle.blif_order.proofs.Walks.{own}
use Rattle.blif_models.specs.declared.numbered.Entry.{Entry}
use Rattle.blif_models.specs.declared.numbered.Entry.TheVariants as entries
use Rattle.blif_models.specs.declared.numbered.NumberedJoin.{NumberedJoin}
use Rattle.blif_models.specs.declared.numbered.NumberedModel.{NumberedModel}
use Rattle.blif_models.specs.Agreement.{HasLines, entry_line}
use Rattle.blif_models.specs.Graphs.{AreReached, is_met}
use Rattle.blif_models.specs.Layouts.{AreNumbered, EntryIs, model_at, no_model}
use Rattle.blif_models.specs.ModelFaults.{instances_in, line_of}
use Rattle.blif_models.specs.Models.{Item, Join, Model, covered, held, items_in, joins_of, latched}
use Rattle.blif_models.specs.Numberings.{AreEntriesOf, AreJoinsOf, IsEntryOf, IsNumbering, cover_of, words_at}
use Rattle.blif_models.proofs.Searches.{reached_next}
use Rattle.blif_formals.specs.declared.calls.Call.{Call}
use Rattle.blif_drafts.specs.declared.drafts.DraftItem.{DraftItem}
use Rattle.blif_drafts.specs.declared.drafts.DraftItem.TheVariants as drafts
use Rattle.blif_formals.specs.declared.formals.Callees.{Callees}
use Rattle.blif_formals.specs.declared.titles.Heading.{Heading}
use Rattle.blif_formals.specs.declared.titles.Title.{Title}
use Rattle.blif_formals.specs.Actuals.{AreActuals}
use Rattle.blif_formals.specs.Calls.{AreCallsOf, held_by, model_by}
use Rattle.blif_drafts.specs.Drafts.{AreActualsOf, AreItemsOf}
use Rattle.blif_drafts.specs.Entries.{AreEntriesBy, AreModelsBy}
use Rattle.blif_formals.specs.Formals.{AreWordsOf, words_in}
use Rattle.blif_formals.proofs.Entering.{instances_agree}
use Rattle.blif_drafts.proofs.Judging.{AreTold, first_call, first_words, many_holds, met_model, met_within}
use Rattle.blif_drafts.proofs.OfDrafts.{apart_in, number_to, numbers_to, numbers_within}

-- what is held by the calls of a model
reads_at : (titles : List (Option Title)) (calls : List (List Call)) (m : ℕ) → reads_of (map (held_by titles) calls) m ≡ held_by titles (get_or calls m [])
reads_at titles [] m = refl
reads_at titles (ones ∷ calls) zero = refl
reads_at titles (ones ∷ calls) (suc m) = reads_at titles calls m

in_held : (titles : List (Option Title)) (ones : List Call) (k : ℕ) (call : Call) (n : ℕ) → slice_get ones k ≡ Some call → model_by titles call.title ≡ Some n → is_in (held_by titles ones) n ≡ true
in_held titles [] k call n at e = cc
in_held titles (one ∷ ones) zero call n at e =
    let same : one ≡ call = cc in
    ap (λ (c : Call). is_in (option_to_list (model_by titles c.title) ++ held_by titles ones) n) same ∙ ap (λ o. is_in (option_to_list o ++ held_by titles ones) n) e ∙ ap (λ b. b || is_in (held_by titles ones) n) (own n)
in_held titles (one ∷ ones) (suc k) call n at e =
    list_any-append (λ x. x == n) (option_to_list (model_by titles one.title)) (held_by titles ones)
    ∙ or_right (is_in (option_to_list (model_by titles one.title)) n) (is_in (held_by titles ones) n) (in_held titles ones k call n at e)

-- numbers of joins are those of names
joins_within : (words : List (List Word)) (m inner names others : ℕ) → length (words_at words m) ≡ names → length (words_at words inner) ≡ others → (numbers : List NumberedJoin) (joins : List Join) → AreJoinsOf words m inner numbers joins
    → All (λ join. (join.actual < names) × (join.formal < others)) numbers
joins_within words m inner names others e f [] [] a = All-nil (λ (join : NumberedJoin). (join.actual < names) × (join.formal < others))
joins_within words m inner names others e f [] (join ∷ joins) a = absurd a
joins_within words m inner names others e f (one ∷ numbers) [] a = absurd a
joins_within words m inner names others e f (one ∷ numbers) (join ∷ joins) a =
    All-cons (λ (join : NumberedJoin). (join.actual < names) × (join.formal < others)) one numbers (subst (λ n. one.actual < n) e (a.1).0, subst (λ n. one.formal < n) f (a.0).0) (joins_within words m inner names others e f numbers joins a.2)

module _ (models : List Model) (among : ℕ → Bool) (words : List (List Word)) (numbered : List NumberedModel) (many : length numbered ≡ length models) (names : (m : ℕ) → m < length numbered → (model_at numbered m).names ≡ length (words_at words m)) where
  entry_within : (m place : ℕ) → length (words_at words m) ≡ (model_at numbered m).names → (item : Item) (entry : Entry) → IsEntryOf models among words m place item entry → EntryIs numbered (model_at numbered m).names entry
  entry_within m place e (covered cover) (entries.Cover numbers) a =
      (subst (λ n. All (λ k. k < n) numbers.ins) e (numbers_within words m numbers.ins cover.ins a.1), subst (λ n. numbers.name < n) e (a.2).0)
  entry_within m place e (latched latch) (entries.Latch numbers) a = (subst (λ n. numbers.input < n) e (a.1).0, subst (λ n. numbers.output < n) e (a.2).0)
  entry_within m place e (held instance) (entries.Instance numbers) a =
      let low = slice_get_within models numbers.model (a.1).0 (a.1).1 in
      let below : numbers.model < length numbered = omega (arith, low, many) in
      (below, joins_within words m numbers.model (model_at numbered m).names (model_at numbered numbers.model).names e (sym (names numbers.model below)) numbers.joins (joins_of instance) a.2)
  entry_within m place e (covered cover) (entries.Latch numbers) a = absurd a
  entry_within m place e (covered cover) (entries.Instance numbers) a = absurd a
  entry_within m place e (latched latch) (entries.Cover numbers) a = absurd a
  entry_within m place e (latched latch) (entries.Instance numbers) a = absurd a
  entry_within m place e (held instance) (entries.Cover numbers) a = absurd a
  entry_within m place e (held instance) (entries.Latch numbers) a = absurd a

  pub entries_within : (m place : ℕ) → length (words_at words m) ≡ (model_at numbered m).names → (items : List Item) (others : List Entry) → AreEntriesOf models among words m place items others → All (EntryIs numbered (model_at numbered m).names) others
  entries_within m place e [] [] a = All-nil (EntryIs numbered (model_at numbered m).names)
  entries_within m place e [] (other ∷ others) a = absurd a
  entries_within m place e (item ∷ items) [] a = absurd a
  entries_within m place e (item ∷ items) (other ∷ others) a =
      All-cons (EntryIs numbered (model_at numbered m).names) other others (entry_within m place e item other a.0) (entries_within m (place + 1) e items others a.1)

module _ (titles : List Word) (models : List Model) (callees : Callees) (headings : List Heading) (items : List (List DraftItem)) (calls : List (List Call)) (joined : List (List (List (Bor (List ℕ))))) (told : AreTold titles models callees headings items calls joined)
    (met : List Bool) (main : Model) (at : slice_get models 0 ≡ Some main) (reached : AreReached (map (held_by callees.titles.now) calls) 0 met) where
  -- what a model that was met holds was met
  pub closed : (m n : ℕ) → is_met met m ≡ true → is_in (reads_of (map (held_by callees.titles.now) calls) m) n ≡ true → is_met met n ≡ true
  closed m n e i = let holds = map (held_by callees.titles.now) calls in reached.however_far (suc (length holds)) n (reached_next holds (length holds) 0 m n (sym (reached.reached m) ∙ e) i)

  module _ (among : ℕ → Bool) (alike : (m : ℕ) → among m ≡ is_met met m) where
    entries_are : (m : ℕ) (model : Model) → slice_get models m ≡ Some model → (ones : List Call) (ws : List (List (Bor (List ℕ)))) → ((k : ℕ) (call : Call) (n : ℕ) → slice_get ones k ≡ Some call → model_by callees.titles.now call.title ≡ Some n → among n ≡ true)
        → (own_items : List Item) (ds : List DraftItem) (others : List Entry) (p place : ℕ) → ((k : ℕ) → slice_get model.items (place + k) ≡ slice_get own_items k) → AreItemsOf (words_at callees.names.now m) own_items ds
        → AreEntriesBy callees ones ws p ds others → AreCallsOf titles (instances_in own_items) (drop p ones) → AreWordsOf (instances_in own_items) (drop p ws)
        → AreEntriesOf models among callees.names.now m place own_items others × (map line_of own_items ≡ map entry_line others)
    entries_are m model found ones ws inner [] [] [] p place here a b c d = (tt, refl)
    entries_are m model found ones ws inner [] [] (e ∷ others) p place here a b c d = absurd b
    entries_are m model found ones ws inner [] (i ∷ ds) others p place here a b c d = absurd a
    entries_are m model found ones ws inner (x ∷ own_items) [] others p place here a b c d = absurd a
    entries_are m model found ones ws inner (x ∷ own_items) (i ∷ ds) [] p place here a b c d = absurd b
    entries_are m model found ones ws inner (covered cover ∷ own_items) (drafts.Cover numbers ∷ ds) (e ∷ others) p place here a b c d =
        let all = callees.names.now in
        let own_names = words_at all m in
        let same : p ≡ p + 0 = omega arith in
        let first : place ≡ place + 0 = omega arith in
        let rest = entries_are m model found ones ws inner own_items ds others (p + 0) (place + 1) (λ k. ap (slice_get model.items) (omega arith) ∙ here (suc k)) a.1 b.1 (subst (λ n. AreCallsOf titles (instances_in own_items) (drop n ones)) same c)
        (subst (λ n. AreWordsOf (instances_in own_items) (drop n ws)) same d) in
        let stands : cover_of (slice_get (items_in (slice_get models m)) place) ≡ cover = ap (λ o. cover_of (slice_get (items_in o) place)) found ∙ ap cover_of (ap (slice_get model.items) first ∙ here 0) in
        let entry : IsEntryOf models among all m place (covered cover) (entries.Cover numbers) = (stands, numbers_to all m own_names refl numbers.ins cover.ins (a.0).1, number_to all m own_names refl numbers.name cover.name (a.0).2) in
        ((subst (IsEntryOf models among all m place (covered cover)) (sym b.0) entry, rest.0), (λ j. (sym (a.0).0 ∙ ap entry_line (sym b.0)) j ∷ rest.1 j))
    entries_are m model found ones ws inner (latched latch ∷ own_items) (drafts.Latch numbers ∷ ds) (e ∷ others) p place here a b c d =
        let all = callees.names.now in
        let own_names = words_at all m in
        let same : p ≡ p + 0 = omega arith in
        let rest = entries_are m model found ones ws inner own_items ds others (p + 0) (place + 1) (λ k. ap (slice_get model.items) (omega arith) ∙ here (suc k)) a.1 b.1 (subst (λ n. AreCallsOf titles (instances_in own_items) (drop n ones)) same c)
        (subst (λ n. AreWordsOf (instances_in own_items) (drop n ws)) same d) in
        let entry : IsEntryOf models among all m place (latched latch) (entries.Latch numbers) = ((a.0).0, number_to all m own_names refl numbers.input latch.input (a.0).1, number_to all m own_names refl numbers.output latch.output (a.0).2) in
        ((subst (IsEntryOf models among all m place (latched latch)) (sym b.0) entry, rest.0), (λ j. (sym (a.0).0 ∙ ap entry_line (sym b.0)) j ∷ rest.1 j))
    entries_are m model found ones ws inner (held one ∷ own_items) (drafts.Instance ns ∷ ds) (entries.Instance number ∷ others) p place here a b c d =
        let all = callees.names.now in
        let own_names = words_at all m in
        let by = b.0 in
        let first = first_call titles one (instances_in own_items) ones p by.call by.call_is c in
        let second = first_words one (instances_in own_items) ws p by.words by.words_are d in
        let rest = entries_are m model found ones ws inner own_items ds others (p + 1) (place + 1) (λ k. ap (slice_get model.items) (omega arith) ∙ here (suc k)) a.1 b.1 first.2 second.1 in
        let actuals : AreActuals own_names (drop 1 one.words) by.actuals = subst (AreActualsOf own_names (drop 1 one.words)) by.found_is a.0 in
        let entry : IsEntryOf models among all m place (held one) (entries.Instance number) =
        instances_agree titles models headings callees calls among m place one by.call (words_in by.words) by.actuals number told.named first.1 second.0 (subst (λ (ws : List Word). AreActuals own_names ws by.actuals) second.0 actuals) by.instance
        (inner p by.call number.model by.call_is by.instance.model) in
        ((entry, rest.0), (λ j. (sym first.0 ∙ sym by.instance.line) j ∷ rest.1 j))
    entries_are m model found ones ws inner (held one ∷ own_items) (drafts.Instance ns ∷ ds) (entries.Cover number ∷ others) p place here a b c d = absurd b.0
    entries_are m model found ones ws inner (held one ∷ own_items) (drafts.Instance ns ∷ ds) (entries.Latch number ∷ others) p place here a b c d = absurd b.0
    entries_are m model found ones ws inner (covered cover ∷ own_items) (drafts.Latch numbers ∷ ds) (e ∷ others) p place here a b c d = absurd a.0
    entries_are m model found ones ws inner (covered cover ∷ own_items) (drafts.Instance ns ∷ ds) (e ∷ others) p place here a b c d = absurd a.0
    entries_are m model found ones ws inner (latched latch ∷ own_items) (drafts.Cover numbers ∷ ds) (e ∷ others) p place here a b c d = absurd a.0
    entries_are m model found ones ws inner (latched latch ∷ own_items) (drafts.Instance ns ∷ ds) (e ∷ others) p place here a b c d = absurd a.0
    entries_are m model found ones ws inner (held one ∷ own_items) (drafts.Cover numbers ∷ ds) (e ∷ others) p place here a b c d = absurd a.0
    entries_are m model found ones ws inner (held one ∷ own_items) (drafts.Latch numbers ∷ ds) (e ∷ others) p place here a b c d = absurd a.0

    module _ (numbered : List NumberedModel) (by : AreModelsBy callees items calls joined met numbered) where
      pub many_numbered : length numbered ≡ length models
      many_numbered = by.as_many ∙ told.many_items

      within_numbered : (m : ℕ) → is_met met m ≡ true → m < length numbered
      within_numbered m e = let low = met_within met m e in let a = reached.as_many in let b = many_holds titles models callees headings items calls joined told met main at reached in let k = many_numbered in omega (arith, low, a, b, k)

      both_are : (m : ℕ) (model : Model) → among m ≡ true → slice_get models m ≡ Some model → AreEntriesOf models among callees.names.now m 0 model.items (model_at numbered m).entries × HasLines model (model_at numbered m)
      both_are m model i found =
          let was : is_met met m ≡ true = sym (alike m) ∙ i in
          let ones = get_or calls m [] in
          entries_are m model found ones (get_or joined m [])
          (λ k call n there e. alike n ∙ closed m n was (ap (λ ns. is_in ns n) (reads_at callees.titles.now calls m) ∙ in_held callees.titles.now ones k call n there e))
          model.items (get_or items m []) (model_at numbered m).entries 0 0 (λ k. ap (slice_get model.items) (omega arith)) (told.items_are m model found) (by.own m (within_numbered m was) was) (told.calls_in m model found) (told.joined_in m model found)

      pub numbering : IsNumbering models among callees.names.now numbered
      numbering = record {
        entries_are = λ m model i found. (both_are m model i found).0;
        names_are = λ m i. by.names m (within_numbered m (sym (alike m) ∙ i));
        apart = λ m a b i lt below e.
            let x = met_model titles models callees headings items calls joined told met main at reached m (sym (alike m) ∙ i) in
            apart_in callees.names.now m (told.one_number m x.0 x.1) a b lt below e;
      }

      pub lines_are : (m : ℕ) (model : Model) → among m ≡ true → slice_get models m ≡ Some model → HasLines model (model_at numbered m)
      lines_are m model i found = (both_are m model i found).1

      pub all_numbered : AreNumbered numbered
      all_numbered = All-from_get_or (λ (one : NumberedModel). All (EntryIs numbered one.names) one.entries) numbered no_model (λ m lt. by_cases m lt (is_met met m) refl)
        where
          by_cases : (m : ℕ) → m < length numbered → (t : Bool) → is_met met m ≡ t → All (EntryIs numbered (model_at numbered m).names) (model_at numbered m).entries
          by_cases m lt true e =
              let x = met_model titles models callees headings items calls joined told met main at reached m e in
              entries_within models among callees.names.now numbered many_numbered by.names m 0 (sym (by.names m lt)) (x.0).items (model_at numbered m).entries (both_are m x.0 (alike m ∙ e) x.1).0
          by_cases m lt false e = subst (All (EntryIs numbered (model_at numbered m).names)) (sym (by.others m e)) (All-nil (EntryIs numbered (model_at numbered m).names))
