-- What is told by numbers of models that have drafts.
use Rattle.std.proofs.Common.{◌≡◌, ℕ, zero, suc, ◌+◌, ◌<◌, ◌&&◌, ◌||◌, Bool, true, false, cond, Bor, List, [], ◌∷◌, Option, Some, None, drop, drop-cons, filter, flat_map, get_or, length, map, refl, ap, sym, ◌∙◌, subst, arith}
use Rattle.std.specs.Prelude.{All, slice_get}
use Rattle.std.specs.List.{list_all, list_any}
use Rattle.std.specs.Option.{is_none}
use Rattle.std.proofs.lemmas.Bool.{false≢true}
use Rattle.std.proofs.lemmas.List.{length-map}
use Rattle.std.proofs.lemmas.List.Elements.{All-cons, All-nil}
use Rattle.std.proofs.lemmas.Option.{get_or_from_slice_get, slice_get_within}
use Rattle.job_words.specs.Text.{Word, is_among}
use Rattle.blif_order.specs.Orders.{is_in}
use Rattle.blif_order.proofs.Walks.{own}
use Rattle.blif_models.specs.Agreement.{AreApart}
use Rattle.blif_models.specs.Graphs.{AreReached, is_met, is_reached}
use Rattle.blif_models.specs.ModelFaults.{all_reached, formal_lines, instances_in, is_join, is_misjoined, is_misnamed, is_model, least, model_lines, names_no_model}
use Rattle.blif_models.specs.ModelGraphs.{IsGraph}
use Rattle.blif_models.specs.Models.{Instance, Item, Model, called_by, covered, held, join_of, latched, model_of}
use Rattle.blif_models.specs.Numberings.{words_at}
use Rattle.blif_models.proofs.HoldingThemselves.{agrees}
use Rattle.blif_models.proofs.TurningLines.{any_in, least_low, reached_number, some_model}
use Rattle.blif_formals.specs.declared.calls.Call.{Call}
use Rattle.blif_drafts.specs.declared.drafts.DraftItem.{DraftItem}
use Rattle.blif_drafts.specs.declared.drafts.DraftItem.TheVariants as drafts
use Rattle.blif_formals.specs.declared.formals.Callees.{Callees}
use Rattle.blif_formals.specs.declared.titles.Heading.{Heading}
use Rattle.blif_formals.specs.declared.titles.Title.{Title}
use Rattle.blif_formals.specs.Actuals.{AreActuals}
use Rattle.blif_formals.specs.ByNames.{joins_one_of}
use Rattle.blif_formals.specs.Calls.{AreAllCallsOf, AreCallsBelow, AreCallsOf, AreNamed, held_by, model_by}
use Rattle.blif_formals.specs.Clashes.{least_of}
use Rattle.blif_formals.specs.Definitions.{AreInterfacesOf, ports_at}
use Rattle.blif_drafts.specs.Drafts.{AreActualsOf, AreItemsOf}
use Rattle.blif_drafts.specs.Entries.{AreKnown, AreKnownIn, IsKnown}
use Rattle.blif_formals.specs.Formals.{AreAllWordsOf, AreCallees, AreWordsOf, words_in}
use Rattle.blif_formals.specs.Instances.{joins_known}
use Rattle.blif_formals.specs.Joining.{IsInterface}
use Rattle.blif_formals.specs.Lines.{AreRisingModels}
use Rattle.blif_formals.specs.Titles.{AreHeadingsOf, IsTitleBelow, IsTitleOf, got_model}
use Rattle.blif_formals.specs.Words.{HaveOneNumber}
use Rattle.blif_formals.proofs.ByNames.{formals_agree}
use Rattle.blif_formals.proofs.Calling.{found_by, held_graph, there}
use Rattle.blif_formals.proofs.Clashing.{least_both}
use Rattle.blif_formals.proofs.InLines.{one_place}

-- Models with the numbers of what stands in their drafts.
pub record AreTold (titles : List Word) (models : List Model) (callees : Callees) (headings : List Heading) (items : List (List DraftItem)) (calls : List (List Call)) (joined : List (List (List (Bor (List ℕ))))) : Type 0 where
  pub named : AreNamed titles models headings callees.titles.now calls
  pub words_are : AreAllWordsOf models joined
  pub have : AreInterfacesOf models (λ m. true) callees.names.now callees.interfaces.now
  pub faces : All IsInterface callees.interfaces.now
  pub ports : (m : ℕ) → m < length models → length (ports_at callees.interfaces.now m) ≡ length (words_at callees.names.now m)
  pub many_names : length callees.names.now ≡ length models
  pub many_faces : length callees.interfaces.now ≡ length models
  pub many_calls : length calls ≡ length models
  pub many_items : length items ≡ length models
  pub many_titles : length callees.titles.now ≡ length titles
  pub one_number : (m : ℕ) (model : Model) → slice_get models m ≡ Some model → HaveOneNumber (words_at callees.names.now m)
  pub items_are : (m : ℕ) (model : Model) → slice_get models m ≡ Some model → AreItemsOf (words_at callees.names.now m) model.items (get_or items m [])
  pub calls_in : (m : ℕ) (model : Model) → slice_get models m ≡ Some model → AreCallsOf titles (instances_in model.items) (get_or calls m [])
  pub joined_in : (m : ℕ) (model : Model) → slice_get models m ≡ Some model → AreWordsOf (instances_in model.items) (get_or joined m [])
  pub rising : AreRisingModels models

-- numbers of names of models are those of so many names

title_below : (titles : List Word) (name : Option Word) (title : Option ℕ) → IsTitleOf titles name title → IsTitleBelow (length titles) title
title_below titles None None is = tt
title_below titles None (Some n) is = absurd is
title_below titles (Some w) None is = absurd is
title_below titles (Some w) (Some n) is = slice_get_within titles n w is

pub headings_below : (titles : List Word) (models : List Model) (headings : List Heading) → AreHeadingsOf titles models headings → All (λ heading. IsTitleBelow (length titles) heading.title) headings
headings_below titles [] [] a = All-nil (λ (heading : Heading). IsTitleBelow (length titles) heading.title)
headings_below titles [] (h ∷ headings) a = absurd a
headings_below titles (x ∷ models) [] a = absurd a
headings_below titles (x ∷ models) (h ∷ headings) a = All-cons (λ (heading : Heading). IsTitleBelow (length titles) heading.title) h headings (title_below titles x.name h.title a.1) (headings_below titles models headings a.2)

ones_below : (titles : List Word) (instances : List Instance) (ones : List Call) → AreCallsOf titles instances ones → AreCallsBelow (length titles) ones
ones_below titles [] [] a = All-nil (λ (call : Call). IsTitleBelow (length titles) call.title)
ones_below titles [] (call ∷ ones) a = absurd a
ones_below titles (x ∷ instances) [] a = absurd a
ones_below titles (x ∷ instances) (call ∷ ones) a = All-cons (λ (call : Call). IsTitleBelow (length titles) call.title) call ones (title_below titles (called_by x) call.title a.1) (ones_below titles instances ones a.2)

pub calls_below : (titles : List Word) (models : List Model) (calls : List (List Call)) → AreAllCallsOf titles models calls → All (AreCallsBelow (length titles)) calls
calls_below titles [] [] a = All-nil (AreCallsBelow (length titles))
calls_below titles [] (ones ∷ calls) a = absurd a
calls_below titles (x ∷ models) [] a = absurd a
calls_below titles (x ∷ models) (ones ∷ calls) a = All-cons (AreCallsBelow (length titles)) ones calls (ones_below titles (instances_in x.items) ones a.0) (calls_below titles models calls a.1)

-- the first call that is left, and the words behind it

pub drop_at : {X : Type 0} (xs : List X) (p : ℕ) (x : X) → slice_get xs p ≡ Some x → drop p xs ≡ x ∷ drop (p + 1) xs
drop_at {X} xs p x at =
    let next : suc p ≡ p + 1 = omega arith in
    drop-cons xs p x (slice_get_within xs p x at) ∙ (λ j. get_or_from_slice_get xs p x x at j ∷ drop (next j) xs)

pub first_call : (titles : List Word) (one : Instance) (instances : List Instance) (ones : List Call) (p : ℕ) (call : Call) → slice_get ones p ≡ Some call → AreCallsOf titles (one ∷ instances) (drop p ones)
    → (call.line ≡ one.line) × IsTitleOf titles (called_by one) call.title × AreCallsOf titles instances (drop (p + 1) ones)
first_call titles one instances ones p call at a = subst (AreCallsOf titles (one ∷ instances)) (drop_at ones p call at) a

pub first_words : (one : Instance) (instances : List Instance) (joined : List (List (Bor (List ℕ)))) (p : ℕ) (words : List (Bor (List ℕ))) → slice_get joined p ≡ Some words → AreWordsOf (one ∷ instances) (drop p joined)
    → (drop 1 one.words ≡ words_in words) × AreWordsOf instances (drop (p + 1) joined)
first_words one instances joined p words at a = subst (AreWordsOf (one ∷ instances)) (drop_at joined p words at) a

-- where calls are left there is a first one
some_left : {X : Type 0} (xs : List X) (p : ℕ) (x : X) (rest : List X) → drop p xs ≡ x ∷ rest → slice_get xs p ≡ Some x
some_left [] zero x rest e = cc
some_left [] (suc p) x rest e = cc
some_left (y ∷ xs) zero x rest e =
    let same : y ≡ x = cc in
    ap Some same
some_left (y ∷ xs) (suc p) x rest e = some_left xs p x rest e

-- words that join names join something
joins_all : (names words : List Word) → list_all (joins_one_of names) words ≡ true → list_all is_join words ≡ true
joins_all names [] e = refl
joins_all names (w ∷ words) e = by_cases (is_join w) refl e (joins_all names words)
  where
    by_cases : (t : Bool) → is_join w ≡ t → ((t && is_among names (join_of w).formal) && list_all (joins_one_of names) words) ≡ true → (list_all (joins_one_of names) words ≡ true → list_all is_join words ≡ true) → (t && list_all is_join words) ≡ true
    by_cases true f g more = both (is_among names (join_of w).formal) g
      where
        both : (s : Bool) → (s && list_all (joins_one_of names) words) ≡ true → list_all is_join words ≡ true
        both true h = more h
        both false h = absurd (false≢true h)
    by_cases false f g more = absurd (false≢true g)

as_many_actuals : (names words : List Word) (ns : List ℕ) → AreActuals names words ns → length ns ≡ length words
as_many_actuals names [] [] a = refl
as_many_actuals names [] (n ∷ ns) a = absurd a
as_many_actuals names (w ∷ words) [] a = absurd a
as_many_actuals names (w ∷ words) (n ∷ ns) a = ap suc (as_many_actuals names words ns a.1)

-- a line is told of none
none_line : {X : Type 0} (line : X → ℕ) (p : X → Bool) (x : X) (xs : List X) → map line (filter p (x ∷ xs)) ≡ [] → (p x ≡ false) × (map line (filter p xs) ≡ [])
none_line {X} line p x xs e = by_cases (p x) refl e
  where
    by_cases : (t : Bool) → p x ≡ t → map line (cond t (x ∷ filter p xs) (filter p xs)) ≡ [] → (p x ≡ false) × (map line (filter p xs) ≡ [])
    by_cases true f g = cc
    by_cases false f g = (f, g)

module _ (titles : List Word) (models : List Model) (callees : Callees) (headings : List Heading) (items : List (List DraftItem)) (calls : List (List Call)) (joined : List (List (List (Bor (List ℕ))))) (told : AreTold titles models callees headings items calls joined) where
  abbrev known_titles : List (Option Title)
  known_titles = callees.titles.now

  pub apart_models : AreApart models (λ m. true)
  apart_models m n one other i j at found same = one_place models 0 m n one other told.rising.begins at found same

  pub callees_are : AreCallees callees
  callees_are = record {
    models = λ n m e. let x = there titles models headings known_titles calls told.named (Some n) m e in subst (λ k. m < k) (sym told.many_names) (slice_get_within models m x.0 x.1);
    as_many = told.many_faces ∙ sym told.many_names;
    interfaces = told.faces;
    ports = λ m lt. told.ports m (subst (λ k. m < k) told.many_names lt);
  }

  -- an instance that is of some model and joins it well is known
  known_one : (names : List Word) (one : Instance) (ones : List Call) (ws : List (List (Bor (List ℕ)))) (p : ℕ) (call : Call) (words : List (Bor (List ℕ))) (found : Option (List ℕ)) → slice_get ones p ≡ Some call → slice_get ws p ≡ Some words
      → IsTitleOf titles (called_by one) call.title → drop 1 one.words ≡ words_in words → AreActualsOf names (drop 1 one.words) found → names_no_model models one ≡ false → is_misjoined (model_of models one) one ≡ false → IsKnown callees ones ws p found
  known_one names one ones ws p call words found at behind title same actuals some well = by_model (model_by known_titles call.title) refl
    where
      of_model : model_of models one ≡ got_model models (model_by known_titles call.title)
      of_model = found_by titles models headings known_titles calls told.named (called_by one) call.title title

      by_model : (o : Option ℕ) → model_by known_titles call.title ≡ o → IsKnown callees ones ws p found
      by_model None e = absurd (false≢true (sym some ∙ ap is_none (of_model ∙ ap (got_model models) e)))
      by_model (Some n) e =
          let x = there titles models headings known_titles calls told.named call.title n e in
          let face = told.have n x.0 refl x.1 in
          let of : model_of models one ≡ Some x.0 = of_model ∙ ap (got_model models) e ∙ x.1 in
          let own_names = words_at callees.names.now n in
          let not_wrong : is_misjoined (Some x.0) one ≡ false = ap (λ (o : Option Model). is_misjoined o one) (sym of) ∙ well in
          let joins : list_all (joins_one_of own_names) (drop 1 one.words) ≡ true = by_test (list_all (joins_one_of own_names) (drop 1 one.words)) refl (λ f. sym not_wrong ∙ formals_agree.unknown callees.names.now n x.0 face.0 one face.3 f) in
          by_found found refl actuals joins
        where
          by_test : (t : Bool) → list_all (joins_one_of (words_at callees.names.now n)) (drop 1 one.words) ≡ t → (list_all (joins_one_of (words_at callees.names.now n)) (drop 1 one.words) ≡ false → false ≡ true) → t ≡ true
          by_test true f g = refl
          by_test false f g = absurd (false≢true (g f))

          by_found : (o : Option (List ℕ)) → found ≡ o → AreActualsOf names (drop 1 one.words) o → list_all (joins_one_of (words_at callees.names.now n)) (drop 1 one.words) ≡ true → IsKnown callees ones ws p found
          by_found None f none joins = absurd (false≢true (sym none ∙ joins_all (words_at callees.names.now n) (drop 1 one.words) joins))
          by_found (Some ns) f are joins = record {
            call = call;
            words = words;
            actuals = ns;
            call_is = at;
            words_are = behind;
            found_is = f;
            as_many = as_many_actuals names (drop 1 one.words) ns are ∙ ap length same ∙ length-map words (λ (word : Bor (List ℕ)). word.now);
            title = subst (λ k. IsTitleBelow k call.title) (sym told.many_titles) (title_below titles (called_by one) call.title title);
            known = ap (λ o. joins_known callees o (words_in words)) e ∙ ap (list_all (joins_one_of (words_at callees.names.now n))) (sym same) ∙ joins;
          }

  known_all : (names : List Word) (ones : List Call) (ws : List (List (Bor (List ℕ)))) (own_items : List Item) (ds : List DraftItem) (p : ℕ) → AreItemsOf names own_items ds → AreCallsOf titles (instances_in own_items) (drop p ones)
      → AreWordsOf (instances_in own_items) (drop p ws) → map (λ (k : Instance). k.line) (filter (names_no_model models) (instances_in own_items)) ≡ []
      → map (λ (k : Instance). k.line) (filter (λ k. is_misjoined (model_of models k) k) (instances_in own_items)) ≡ [] → AreKnown callees ones ws p ds
  known_all names ones ws [] [] p a b c e f = tt
  known_all names ones ws [] (d ∷ ds) p a b c e f = absurd a
  known_all names ones ws (x ∷ own_items) [] p a b c e f = absurd a
  known_all names ones ws (covered cover ∷ own_items) (drafts.Cover numbers ∷ ds) p a b c e f =
      let same : p ≡ p + 0 = omega arith in
      (tt, known_all names ones ws own_items ds (p + 0) a.1 (subst (λ n. AreCallsOf titles (instances_in own_items) (drop n ones)) same b) (subst (λ n. AreWordsOf (instances_in own_items) (drop n ws)) same c) e f)
  known_all names ones ws (latched latch ∷ own_items) (drafts.Latch numbers ∷ ds) p a b c e f =
      let same : p ≡ p + 0 = omega arith in
      (tt, known_all names ones ws own_items ds (p + 0) a.1 (subst (λ n. AreCallsOf titles (instances_in own_items) (drop n ones)) same b) (subst (λ n. AreWordsOf (instances_in own_items) (drop n ws)) same c) e f)
  known_all names ones ws (held one ∷ own_items) (drafts.Instance found ∷ ds) p a b c e f =
      let some = none_line (λ (k : Instance). k.line) (names_no_model models) one (instances_in own_items) e in
      let well = none_line (λ (k : Instance). k.line) (λ (k : Instance). is_misjoined (model_of models k) k) one (instances_in own_items) f in
      by_calls (drop p ones) refl b (drop p ws) refl c some well (λ here words. known_all names ones ws own_items ds (p + 1) a.1 here words some.1 well.1)
    where
      by_calls : (left : List Call) → drop p ones ≡ left → AreCallsOf titles (one ∷ instances_in own_items) left → (behind : List (List (Bor (List ℕ)))) → drop p ws ≡ behind → AreWordsOf (one ∷ instances_in own_items) behind
          → (names_no_model models one ≡ false) × (map (λ (k : Instance). k.line) (filter (names_no_model models) (instances_in own_items)) ≡ [])
          → (is_misjoined (model_of models one) one ≡ false) × (map (λ (k : Instance). k.line) (filter (λ (k : Instance). is_misjoined (model_of models k) k) (instances_in own_items)) ≡ [])
          → (AreCallsOf titles (instances_in own_items) (drop (p + 1) ones) → AreWordsOf (instances_in own_items) (drop (p + 1) ws) → AreKnown callees ones ws (p + 1) ds) → IsKnown callees ones ws p found × AreKnown callees ones ws (p + 1) ds
      by_calls [] g k behind h l some well more = absurd k
      by_calls (call ∷ left) g k [] h l some well more = absurd l
      by_calls (call ∷ left) g k (words ∷ behind) h l some well more =
          let at = some_left ones p call left g in
          let there_too = some_left ws p words behind h in
          let first = first_call titles one (instances_in own_items) ones p call at b in
          let second = first_words one (instances_in own_items) ws p words there_too c in
          (known_one names one ones ws p call words found at there_too first.1 second.0 a.0 some.0 well.0, more first.2 second.1)
  known_all names ones ws (covered cover ∷ own_items) (drafts.Latch numbers ∷ ds) p a b c e f = absurd a.0
  known_all names ones ws (covered cover ∷ own_items) (drafts.Instance found ∷ ds) p a b c e f = absurd a.0
  known_all names ones ws (latched latch ∷ own_items) (drafts.Cover numbers ∷ ds) p a b c e f = absurd a.0
  known_all names ones ws (latched latch ∷ own_items) (drafts.Instance found ∷ ds) p a b c e f = absurd a.0
  known_all names ones ws (held one ∷ own_items) (drafts.Cover numbers ∷ ds) p a b c e f = absurd a.0
  known_all names ones ws (held one ∷ own_items) (drafts.Latch numbers ∷ ds) p a b c e f = absurd a.0

-- a model that was met is there
pub met_within : (met : List Bool) (m : ℕ) → is_met met m ≡ true → m < length met
met_within [] m e = absurd (false≢true e)
met_within (t ∷ met) zero e = omega arith
met_within (t ∷ met) (suc m) e = let low = met_within met m e in omega (arith, low)

none_either : (a b : Option ℕ) → least_of a b ≡ None → b ≡ None
none_either None b e = e
none_either (Some n) b e = cc

module _ (titles : List Word) (models : List Model) (callees : Callees) (headings : List Heading) (items : List (List DraftItem)) (calls : List (List Call)) (joined : List (List (List (Bor (List ℕ))))) (told : AreTold titles models callees headings items calls joined)
    (met : List Bool) (main : Model) (at : slice_get models 0 ≡ Some main) (reached : AreReached (map (held_by callees.titles.now) calls) 0 met) where
  abbrev holds : List (List ℕ)
  holds = map (held_by callees.titles.now) calls

  pub graph : IsGraph models (λ m. true) holds
  graph = held_graph titles models headings callees.titles.now calls told.named

  pub many_holds : length holds ≡ length models
  many_holds = length-map calls (held_by callees.titles.now) ∙ told.many_calls

  pub met_model : (m : ℕ) → is_met met m ≡ true → (x : Model) × (slice_get models m ≡ Some x)
  met_model m e = some_model models m (subst (λ k. m < k) (reached.as_many ∙ many_holds) (met_within met m e))

  -- where nothing is told of what the main model reaches, nothing is told of a model that was met
  none_told : (lines : Model → List ℕ) → least (flat_map lines (all_reached models main)) ≡ None → (m : ℕ) (one : Model) → is_met met m ≡ true → slice_get models m ≡ Some one → lines one ≡ []
  none_told lines none m one e found = by_cases (lines one) refl
    where
      apart : AreApart models (λ m. true)
      apart = apart_models titles models callees headings items calls joined told

      where_met : list_any (is_model one) (all_reached models main) ≡ is_met met m
      where_met = agrees models (λ m. true) holds graph apart (length models) 0 m main one refl refl at found ∙ ap (λ k. is_reached holds k 0 m) (sym many_holds) ∙ sym (reached.reached m)

      by_cases : (ns : List ℕ) → lines one ≡ ns → ns ≡ []
      by_cases [] f = refl
      by_cases (n ∷ ns) f =
          let here : is_in (lines one) n ≡ true = ap (λ ks. is_in ks n) f ∙ ap (λ b. b || is_in ns n) (own n) in
          let every = any_in models (λ m. true) holds graph apart lines n one (m, refl, found) (all_reached models main)
          ((0, refl, at), reached_number models (λ m. true) holds graph apart (length models) 0 main refl at) (where_met ∙ e) here in
          let low = least_low (flat_map lines (all_reached models main)) n every in
          let bad : None ≡ Some low.0 = sym none ∙ low.1 in
          cc

  pub known_in : least (model_lines models main (drop 1 models)) ≡ None → least (formal_lines models main) ≡ None → AreKnownIn callees items calls joined met
  known_in named well m e =
      let x = met_model m e in
      let model = x.0 in
      let no_model = λ (one : Model). map (λ (k : Instance). k.line) (filter (names_no_model models) (instances_in one.items)) in
      let wrong = λ (one : Model). map (λ (k : Instance). k.line) (filter (λ (k : Instance). is_misjoined (model_of models k) k) (instances_in one.items)) in
      let first = map (λ (one : Model). one.line) (filter (is_misnamed models) (drop 1 models)) in
      let second = flat_map no_model (all_reached models main) in
      known_all titles models callees headings items calls joined told (words_at callees.names.now m) (get_or calls m []) (get_or joined m []) model.items (get_or items m []) 0 (told.items_are m model x.1) (told.calls_in m model x.1) (told.joined_in m model x.1)
      (none_told no_model (none_either (least first) (least second) (sym (least_both first second) ∙ named)) m model e x.1) (none_told wrong well m model e x.1)
