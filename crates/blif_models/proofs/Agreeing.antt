-- The whole of a main model, and the line by which it passes the limits, by numbers and by names.
use Rattle.std.proofs.Common.{◌≡◌, ℕ, zero, suc, ◌+◌, ◌==◌, ◌<◌, ◌≤◌, ◌||◌, Bool, true, false, List, [], ◌∷◌, ◌++◌, Option, Some, length, map, refl, ap, sym, ◌∙◌, arith, if◌then◌else◌}
use Rattle.std.specs.Prelude.{slice_get}
use Rattle.std.proofs.lemmas.Bool.{false≢true}
use Rattle.edge_bits.specs.declared.limits.TheConstants.{MOST_SIGNALS, MOST_VARIABLES}
use Rattle.job_words.specs.Text.{Word}
use Rattle.blif_order.specs.Orders.{is_in}
use Rattle.blif_order.proofs.Ends.{order_length}
use Rattle.blif_models.specs.declared.limits.Adding.{Adding}
use Rattle.blif_models.specs.declared.numbered.Entry.{Entry}
use Rattle.blif_models.specs.declared.numbered.Entry.TheVariants as entries
use Rattle.blif_models.specs.declared.numbered.NumberedModel.{NumberedModel}
use Rattle.blif_models.specs.Additions.{adding_by}
use Rattle.blif_models.specs.Agreement.{ExpansionsAgree, HasLines, IsMain, entry_line}
use Rattle.blif_models.specs.Arrangements.{IsArranged}
use Rattle.blif_models.specs.Circuits.{Cover}
use Rattle.blif_models.specs.Expanding.{limit_in, total_in}
use Rattle.blif_models.specs.Graphs.{total_within}
use Rattle.blif_models.specs.Layouts.{counted, laid_whole, model_at}
use Rattle.blif_models.specs.ModelFaults.{adding_inputs, adding_of, by_line, latches_in_all, line_of, passing_line, signals_within}
use Rattle.blif_models.specs.Models.{Model, Item, Instance, Latch, covered, latched, held, items_in, model_of}
use Rattle.blif_models.specs.NumberedGraphs.{all_held, copies_of, latches_of, signals_of}
use Rattle.blif_models.specs.Numberings.{AreEntriesOf, item_of}
use Rattle.blif_models.specs.Orderings.{place_in}
use Rattle.blif_models.proofs.Composing.{place_low, places_ranked}
use Rattle.blif_models.proofs.Counts.{counts_are_totals}
use Rattle.blif_models.proofs.Expansions.{layouts_are_expansions}
use Rattle.blif_models.proofs.NumberedGraphs.{numbered_are_graphs}
use Rattle.blif_models.proofs.Orderings.{steady, totals_are_counts}

-- what items add

cover_signals : (models : List Model) (levels : ℕ) (cover : Cover) → signals_within models levels (covered cover ∷ []) ≡ 1
unfolding signals_within
cover_signals models zero cover = refl
cover_signals models (suc levels) cover = refl

cover_latches : (models : List Model) (levels : ℕ) (cover : Cover) → latches_in_all models levels (covered cover ∷ []) ≡ 0
unfolding latches_in_all
cover_latches models zero cover = refl
cover_latches models (suc levels) cover = refl

latch_signals : (models : List Model) (levels : ℕ) (latch : Latch) → signals_within models levels (latched latch ∷ []) ≡ 1
unfolding signals_within
latch_signals models zero latch = refl
latch_signals models (suc levels) latch = refl

latch_latches : (models : List Model) (levels : ℕ) (latch : Latch) → latches_in_all models levels (latched latch ∷ []) ≡ 1
unfolding latches_in_all
latch_latches models zero latch = refl
latch_latches models (suc levels) latch = refl

held_signals : (models : List Model) (levels : ℕ) (instance : Instance) (inner : Model) → model_of models instance ≡ Some inner → signals_within models (suc levels) (held instance ∷ []) ≡ signals_within models levels inner.items
unfolding signals_within
held_signals models levels instance inner e = let sum : 0 + signals_within models levels (items_in (model_of models instance)) ≡ signals_within models levels (items_in (model_of models instance)) = omega arith in sum ∙ ap (λ (o : Option Model). signals_within models levels (items_in o)) e

held_latches : (models : List Model) (levels : ℕ) (instance : Instance) (inner : Model) → model_of models instance ≡ Some inner → latches_in_all models (suc levels) (held instance ∷ []) ≡ latches_in_all models levels inner.items
unfolding latches_in_all
held_latches models levels instance inner e = let sum : 0 + latches_in_all models levels (items_in (model_of models instance)) ≡ latches_in_all models levels (items_in (model_of models instance)) = omega arith in sum ∙ ap (λ (o : Option Model). latches_in_all models levels (items_in o)) e

module _ (models : List Model) (among : ℕ → Bool) (words : List (List Word)) (l : ℕ) (deep : length models ≡ suc l) (signals latches : ℕ → ℕ)
    (of_signals : (n : ℕ) (inner : Model) → among n ≡ true → slice_get models n ≡ Some inner → signals_within models l inner.items ≡ signals n)
    (of_latches : (n : ℕ) (inner : Model) → among n ≡ true → slice_get models n ≡ Some inner → latches_in_all models l inner.items ≡ latches n) where
  same_additions : (m place : ℕ) (items : List Item) (others : List Entry) → AreEntriesOf models among words m place items others → map line_of items ≡ map entry_line others → map (adding_of models) items ≡ map (adding_by signals latches) others
  same_additions m place [] [] a e = refl
  same_additions m place [] (one ∷ others) a e = absurd a
  same_additions m place (one ∷ items) [] a e = absurd a
  same_additions m place (covered cover ∷ items) (entries.Latch one ∷ others) a e = absurd a.0
  same_additions m place (covered cover ∷ items) (entries.Instance one ∷ others) a e = absurd a.0
  same_additions m place (latched latch ∷ items) (entries.Cover one ∷ others) a e = absurd a.0
  same_additions m place (latched latch ∷ items) (entries.Instance one ∷ others) a e = absurd a.0
  same_additions m place (held instance ∷ items) (entries.Cover one ∷ others) a e = absurd a.0
  same_additions m place (held instance ∷ items) (entries.Latch one ∷ others) a e = absurd a.0
  same_additions m place (covered cover ∷ items) (entries.Cover one ∷ others) a e =
      let line : cover.line ≡ one.line = cc in
      let rest : map line_of items ≡ map entry_line others = cc in
      λ j. record { line = line j; signals = cover_signals models (length models) cover j; inputs = cover_latches models (length models) cover j } ∷ same_additions m (place + 1) items others a.1 rest j
  same_additions m place (latched latch ∷ items) (entries.Latch one ∷ others) a e =
      let line : latch.line ≡ one.line = cc in
      let rest : map line_of items ≡ map entry_line others = cc in
      λ j. record { line = line j; signals = latch_signals models (length models) latch j; inputs = latch_latches models (length models) latch j } ∷ same_additions m (place + 1) items others a.1 rest j
  same_additions m place (held instance ∷ items) (entries.Instance one ∷ others) a e =
      let line : instance.line ≡ one.line = cc in
      let rest : map line_of items ≡ map entry_line others = cc in
      let found = a.0.1 in
      let s : signals_within models (length models) (held instance ∷ []) ≡ signals one.model = ap (λ n. signals_within models n (held instance ∷ [])) deep ∙ held_signals models l instance found.0 found.2 ∙ of_signals one.model found.0 a.0.0 found.1 in
      let i : latches_in_all models (length models) (held instance ∷ []) ≡ latches one.model = ap (λ n. latches_in_all models n (held instance ∷ [])) deep ∙ held_latches models l instance found.0 found.2 ∙ of_latches one.model found.0 a.0.0 found.1 in
      λ j. record { line = line j; signals = s j; inputs = i j } ∷ same_additions m (place + 1) items others a.1 rest j

-- in an order

place_less : (order : List ℕ) (m : ℕ) → is_in order m ≡ true → place_in order m < length order
place_less [] m e = absurd (false≢true e)
place_less (n ∷ order) m e = by_cases (n == m) e (λ f. place_less order m f)
  where
    by_cases : (b : Bool) → (b || is_in order m) ≡ true → (is_in order m ≡ true → place_in order m < length order) → (if b then 0 else suc (place_in order m)) < suc (length order)
    by_cases true f more = omega arith
    by_cases false f more = omega (arith, more f)

-- a total is there already through one level less than there are models
one_less : (numbered : List NumberedModel) (order own : List ℕ) (l m : ℕ) → IsArranged numbered order → length numbered ≡ suc l → m < length numbered → total_within (all_held numbered) own l m ≡ total_within (all_held numbered) own (length numbered) m
one_less numbered order own l m a deep lt =
    let e = a.each m lt in
    let le : place_in order m ≤ l = omega (arith, place_less order m e, order_length order (length numbered) a.once a.within, deep) in
    steady (all_held numbered) own order a.ordered l m e le ∙ ap (λ n. total_within (all_held numbered) own n m) (sym deep)

some_level : (models : List Model) (main : ℕ) (model : Model) → slice_get models main ≡ Some model → (l : ℕ) × (length models ≡ suc l)
some_level [] main model e = cc
some_level (one ∷ models) main model e = (length models, refl)

limit_agrees : (models : List Model) (among : ℕ → Bool) (words : List (List Word)) (numbered : List NumberedModel) (main : ℕ) (model : Model) (order : List ℕ) → IsMain models among words numbered main model → IsArranged numbered order → HasLines model (model_at numbered main)
    → passing_line MOST_SIGNALS MOST_VARIABLES 0 0 (by_line (map adding_inputs model.inputs ++ map (adding_of models) model.items)) ≡ limit_in numbered main (map adding_inputs model.inputs)
limit_agrees models among words numbered main model order is a lines =
    let level = some_level models main model is.is_there in
    let deep : length numbered ≡ suc level.0 = is.as_many ∙ level.1 in
    let graph = numbered_are_graphs.graph models among words numbered is.numbering in
    ap (λ (xs : List Adding). passing_line MOST_SIGNALS MOST_VARIABLES 0 0 (by_line (map adding_inputs model.inputs ++ xs)))
    (same_additions models among words level.0 level.1 (total_in numbered signals_of) (total_in numbered latches_of)
    (λ n inner in_it at.
    counts_are_totals.signals models among (all_held numbered) (map signals_of numbered) graph (numbered_are_graphs.signals models among words numbered is.numbering) level.0 n inner in_it at ∙ one_less numbered order (map signals_of numbered) level.0 n a deep (is.within n in_it))
    (λ n inner in_it at.
    counts_are_totals.latches models among (all_held numbered) (map latches_of numbered) graph (numbered_are_graphs.latches models among words numbered is.numbering) level.0 n inner in_it at ∙ one_less numbered order (map latches_of numbered) level.0 n a deep (is.within n in_it))
    main 0 model.items (model_at numbered main).entries (is.numbering.entries_are main model is.is_among is.is_there) lines)

pub expansions_agree : ExpansionsAgree
expansions_agree = record {
  whole = λ models among words numbered main model whole is w.
      let graph = numbered_are_graphs.graph models among words numbered is.numbering in
      let counts = totals_are_counts models among (all_held numbered) (map copies_of numbered) (map signals_of numbered) w.order w.copies w.signals graph (numbered_are_graphs.copies models among words numbered is.numbering)
      (numbered_are_graphs.signals models among words numbered is.numbering) w.arranged.ordered (λ m e. w.arranged.each m (is.within m e)) w.of_copies.1 w.of_signals.1 (λ m e. w.few m) in
      layouts_are_expansions models among words numbered (place_in w.order) (counted w.copies w.signals) (length models) main model is.numbering (places_ranked numbered w.order w.arranged) counts is.is_among is.is_there (omega (arith, place_low numbered w.order main w.arranged, is.as_many))
      ∙ ap (map (item_of models words)) (ap (λ n. laid_whole numbered (counted w.copies w.signals) n main) (sym is.as_many) ∙ sym w.whole_is);
  limit = λ models among words numbered main model order is a lines. limit_agrees models among words numbered main model order is a lines;
}
