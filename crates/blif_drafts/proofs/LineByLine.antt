-- A draft with one line more.
use Rattle.std.proofs.Common.{◌≡◌, ℕ, suc, ◌+◌, ◌==◌, ◌||◌, Bool, true, false, List, [], ◌∷◌, ◌++◌, Option, append_assoc, drop, flat_map, length, length-append, map, refl, ap, sym, ◌∙◌, subst, arith}
use Rattle.std.specs.Str.{bytes_eq}
use Rattle.std.specs.Global.{Vec}
use Rattle.std.specs.Borrow.{Bor}
use Rattle.std.proofs.lemmas.Bool.{false≢true}
use Rattle.std.proofs.lemmas.List.{length-map, map-append}
use Rattle.std.proofs.lemmas.List.Folds.{list_any-append}
use Rattle.job_words.specs.Text.{Word, is_among}
use Rattle.blif_order.specs.Orders.{is_in}
use Rattle.blif_models.specs.declared.limits.Adding.{Adding}
use Rattle.blif_models.specs.Circuits.{some_again}
use Rattle.blif_models.specs.ModelFaults.{adding_inputs, formal_inputs, instances_in}
use Rattle.blif_models.specs.Models.{Instance, Item, Model, Named, Use, called_by, covered, held, latched, names_of, uses_on}
use Rattle.blif_models.specs.Numberings.{AreNumbersOf}
use Rattle.blif_formals.specs.declared.calls.Call.{Call}
use Rattle.blif_formals.specs.declared.clashes.Definition.{Definition}
use Rattle.blif_formals.specs.Actuals.{Keeps}
use Rattle.blif_formals.specs.ByNames.{AreDefinitionsOf}
use Rattle.blif_formals.specs.Calls.{AreCallsOf}
use Rattle.blif_formals.specs.Definitions.{defined}
use Rattle.blif_formals.specs.Formals.{AreWordsOf, words_in}
use Rattle.blif_formals.specs.Titles.{IsTitleOf}
use Rattle.blif_formals.specs.Twice.{input_definitions}
use Rattle.blif_drafts.specs.declared.drafts.Draft.{Draft}
use Rattle.blif_drafts.specs.declared.drafts.DraftItem.{DraftItem}
use Rattle.blif_drafts.specs.declared.drafts.DraftItem.TheVariants as drafts
use Rattle.blif_drafts.specs.declared.open_draft.OpenDraft.{OpenDraft}
use Rattle.blif_drafts.specs.Drafts.{AreItemsOf, IsItemOf}
use Rattle.blif_drafts.specs.OpenDrafts.{IsOpenOf, instance_at, named_at, with_inputs, with_item, with_outputs}
use Rattle.blif_drafts.specs.Parts.{names_by}
use Rattle.blif_drafts.specs.Signals.{AreSignals, Defines, defined_by, number_defined, signals_in, signals_of}
use Rattle.blif_drafts.proofs.Lasting.{append_numbers, calls_kept, definitions_kept, items_kept, numbers_kept, title_kept}
use Rattle.blif_drafts.proofs.Marking.{again_both, again_fewer, nothing_more}
use Rattle.blif_drafts.proofs.OfDrafts.{input_numbers}

-- lists with more at the end

append_definitions : (names : List Word) (ones : List Definition) (uses : List Use) → AreDefinitionsOf (names ∷ []) 0 ones uses → (more : List Definition) (others : List Use) → AreDefinitionsOf (names ∷ []) 0 more others → AreDefinitionsOf (names ∷ []) 0 (ones ++ more) (uses ++ others)
append_definitions names [] [] a more others b = b
append_definitions names [] (one_use ∷ uses) a more others b = absurd a
append_definitions names (one ∷ ones) [] a more others b = absurd a
append_definitions names (one ∷ ones) (one_use ∷ uses) a more others b = (a.0, a.1, append_definitions names ones uses a.2 more others b)

definitions_on : (names : List Word) (line : ℕ) (ns : List ℕ) (words : List Word) → AreNumbersOf (names ∷ []) 0 ns words → AreDefinitionsOf (names ∷ []) 0 (map (defined line) ns) (uses_on line words)
definitions_on names line [] [] a = tt
definitions_on names line [] (word ∷ words) a = absurd a
definitions_on names line (n ∷ ns) [] a = absurd a
definitions_on names line (n ∷ ns) (word ∷ words) a = (a.0, refl, definitions_on names line ns words a.1)

append_item : (names : List Word) (items : List Item) (ones : List DraftItem) → AreItemsOf names items ones → (item : Item) (one : DraftItem) → IsItemOf names item one → AreItemsOf names (items ++ item ∷ []) (ones ++ one ∷ [])
append_item names [] [] a item one b = (b, tt)
append_item names [] (k ∷ ones) a item one b = absurd a
append_item names (i ∷ items) [] a item one b = absurd a
append_item names (i ∷ items) (k ∷ ones) a item one b = (a.0, append_item names items ones a.1 item one b)

append_call : (titles : List Word) (instances : List Instance) (calls : List Call) → AreCallsOf titles instances calls → (one : Instance) (call : Call) → call.line ≡ one.line → IsTitleOf titles (called_by one) call.title → AreCallsOf titles (instances ++ one ∷ []) (calls ++ call ∷ [])
append_call titles [] [] a one call e t = (e, t, tt)
append_call titles [] (k ∷ calls) a one call e t = absurd a
append_call titles (i ∷ instances) [] a one call e t = absurd a
append_call titles (i ∷ instances) (k ∷ calls) a one call e t = (a.0, a.1, append_call titles instances calls a.2 one call e t)

append_words : (instances : List Instance) (joined : List (List (Bor (List ℕ)))) → AreWordsOf instances joined → (one : Instance) (words : List (Bor (List ℕ))) → drop 1 one.words ≡ words_in words → AreWordsOf (instances ++ one ∷ []) (joined ++ words ∷ [])
append_words [] [] a one words e = (e, tt)
append_words [] (ws ∷ joined) a one words e = absurd a
append_words (i ∷ instances) [] a one words e = absurd a
append_words (i ∷ instances) (ws ∷ joined) a one words e = (a.0, append_words instances joined a.1 one words e)

pub flat_more : {X Y : Type 0} (f : X → List Y) (xs : List X) (x : X) → flat_map f (xs ++ x ∷ []) ≡ flat_map f xs ++ f x
flat_more f [] x = nothing_more (f x)
flat_more f (k ∷ xs) x = ap (λ t. f k ++ t) (flat_more f xs x) ∙ sym (append_assoc (f k) (flat_map f xs) (f x))

pub no_instance : (items : List Item) (item : Item) → instances_in (item ∷ []) ≡ [] → instances_in (items ++ item ∷ []) ≡ instances_in items
no_instance [] item e = e
no_instance (covered cover ∷ items) item e = no_instance items item e
no_instance (latched latch ∷ items) item e = no_instance items item e
no_instance (held instance ∷ items) item e = ap (λ t. instance ∷ t) (no_instance items item e)

one_instance : (items : List Item) (instance : Instance) → instances_in (items ++ held instance ∷ []) ≡ instances_in items ++ instance ∷ []
one_instance [] instance = refl
one_instance (covered cover ∷ items) instance = one_instance items instance
one_instance (latched latch ∷ items) instance = one_instance items instance
one_instance (held other ∷ items) instance = ap (λ t. other ∷ t) (one_instance items instance)

names_defined : (line : ℕ) (ns : List ℕ) → names_by (map (defined line) ns) ≡ ns
names_defined line [] = refl
names_defined line (n ∷ ns) = ap (λ t. n ∷ t) (names_defined line ns)

-- signals by number

pub item_numbers : (names : List Word) (items : List Item) (ones : List DraftItem) → AreItemsOf names items ones → AreNumbersOf (names ∷ []) 0 (flat_map number_defined ones) (flat_map defined_by items)
item_numbers names [] [] a = tt
item_numbers names [] (one ∷ ones) a = absurd a
item_numbers names (item ∷ items) [] a = absurd a
item_numbers names (covered cover ∷ items) (drafts.Cover numbers ∷ ones) a = ((a.0).2, item_numbers names items ones a.1)
item_numbers names (covered cover ∷ items) (drafts.Latch numbers ∷ ones) a = absurd a.0
item_numbers names (covered cover ∷ items) (drafts.Instance found ∷ ones) a = absurd a.0
item_numbers names (latched latch ∷ items) (drafts.Cover numbers ∷ ones) a = absurd a.0
item_numbers names (latched latch ∷ items) (drafts.Latch numbers ∷ ones) a = ((a.0).2, item_numbers names items ones a.1)
item_numbers names (latched latch ∷ items) (drafts.Instance found ∷ ones) a = absurd a.0
item_numbers names (held instance ∷ items) (drafts.Cover numbers ∷ ones) a = absurd a.0
item_numbers names (held instance ∷ items) (drafts.Latch numbers ∷ ones) a = absurd a.0
item_numbers names (held instance ∷ items) (drafts.Instance found ∷ ones) a = item_numbers names items ones a.1

as_many_numbers : (names : List Word) (ns : List ℕ) (words : List Word) → AreNumbersOf (names ∷ []) 0 ns words → length ns ≡ length words
as_many_numbers names [] [] a = refl
as_many_numbers names [] (word ∷ words) a = absurd a
as_many_numbers names (n ∷ ns) [] a = absurd a
as_many_numbers names (n ∷ ns) (word ∷ words) a = ap suc (as_many_numbers names ns words a.1)

among_first : (first second : List Word) (w : Word) → is_among (first ++ second) w ≡ false → is_among first w ≡ false
among_first first second w e = by_cases (is_among first w) (sym (list_any-append (bytes_eq w) first second) ∙ e)
  where
    by_cases : (t : Bool) → (t || is_among second w) ≡ false → t ≡ false
    by_cases true f = absurd (false≢true (sym f))
    by_cases false f = refl

in_middle : (first second more : List ℕ) (n : ℕ) → is_in ((first ++ second) ++ more) n ≡ is_in ((first ++ more) ++ second) n
in_middle first second more n =
    list_any-append (λ k. k == n) (first ++ second) more ∙ ap (λ b. b || is_in more n) (list_any-append (λ k. k == n) first second) ∙ by_cases (is_in first n) (is_in second n) (is_in more n)
    ∙ sym (list_any-append (λ k. k == n) (first ++ more) second ∙ ap (λ b. b || is_in second n) (list_any-append (λ k. k == n) first more))
  where
    by_cases : (a b c : Bool) → ((a || b) || c) ≡ ((a || c) || b)
    by_cases true b c = refl
    by_cases false true true = refl
    by_cases false true false = refl
    by_cases false false true = refl
    by_cases false false false = refl

-- the parts of a draft whose lines are read

abbrev pub opened : Draft → Vec Bool → ℕ → OpenDraft
opened draft marks signals = record { draft = draft; marks = marks; signals = signals }

module _ (titles : List Word) (model : Model) (old : OpenDraft) (is : IsOpenOf titles model old) where
  abbrev names : List Word
  names = old.draft.names

  pub open_signals : AreSignals names old.marks.items (signals_in old.draft) (signals_of model)
  open_signals = record {
    one_number = is.draft_of.one_number;
    numbers_are =
        append_numbers names (names_by old.draft.inputs) (formal_inputs model) (input_numbers (names ∷ []) 0 old.draft.inputs model is.draft_of.inputs)
        (flat_map number_defined old.draft.items) (flat_map defined_by model.items) (item_numbers names model.items old.draft.items is.draft_of.items);
    marked = is.marked;
  }

  pub many_inputs : length old.draft.inputs ≡ length (formal_inputs model)
  many_inputs =
      sym (length-map old.draft.inputs (λ (one : Definition). one.name)) ∙ as_many_numbers names (names_by old.draft.inputs) (formal_inputs model) (input_numbers (names ∷ []) 0 old.draft.inputs model is.draft_of.inputs)

  pub many_outputs : length old.draft.outputs ≡ length (names_of model.outputs)
  many_outputs = as_many_numbers names old.draft.outputs (names_of model.outputs) is.draft_of.outputs

  -- more names, in it and of models
  pub more_names : (titles' names' : List Word) → Keeps titles titles' → Keeps names names' → IsOpenOf titles' model (opened (record old.draft { names = names' }) old.marks old.signals)
  more_names titles' names' t k = record {
    draft_of = record {
      line = is.draft_of.line;
      title = title_kept titles titles' t model.name old.draft.heading.title is.draft_of.title;
      one_number = k.one is.draft_of.one_number;
      inputs = definitions_kept names names' k old.draft.inputs (input_definitions model) is.draft_of.inputs;
      once = is.draft_of.once;
      outputs = numbers_kept names names' k old.draft.outputs (names_of model.outputs) is.draft_of.outputs;
      added = is.draft_of.added;
      items = items_kept names names' k model.items old.draft.items is.draft_of.items;
      calls = calls_kept titles titles' t (instances_in model.items) old.draft.calls is.draft_of.calls;
      joined = is.draft_of.joined;
    };
    marked = is.marked;
    many = is.many;
  }

  -- `.inputs`
  pub inputs_taken : (line : ℕ) (words : List Word) (ns : List ℕ) (names' : List Word) (marks' : Vec Bool) (inputs' : List Definition) (added' : List Adding) (signals' : ℕ)
      → Defines names old.marks.items words ns names' marks'.items → inputs' ≡ old.draft.inputs ++ map (defined line) ns
      → added' ≡ old.draft.added ++ record { line = line; signals = length words; inputs = length words } ∷ [] → signals' ≡ old.signals + length words
      → IsOpenOf titles (with_inputs line words model) (opened (record old.draft { names = names'; inputs = inputs'; added = added' }) marks' signals')
  inputs_taken line words ns names' marks' inputs' added' signals' d e f g = record {
    draft_of = record {
      line = is.draft_of.line;
      title = is.draft_of.title;
      one_number = d.keeps.one is.draft_of.one_number;
      inputs =
          subst (λ (ones : List Definition). AreDefinitionsOf (names' ∷ []) 0 ones (input_definitions (with_inputs line words model))) (sym e)
          (subst (AreDefinitionsOf (names' ∷ []) 0 (old.draft.inputs ++ map (defined line) ns)) (sym (flat_more (λ (one : Named). uses_on one.line one.words) model.inputs (named_at line words)))
          (append_definitions names' old.draft.inputs (input_definitions model) (definitions_kept names names' d.keeps old.draft.inputs (input_definitions model) is.draft_of.inputs) (map (defined line) ns) (uses_on line words)
          (definitions_on names' line ns words d.numbers_are)));
      once =
          ap (some_again []) more ∙ again_both [] (formal_inputs model) words is.draft_of.once
          ∙ again_fewer (formal_inputs model) (signals_of model) (λ w. among_first (formal_inputs model) (flat_map defined_by model.items) w) words (d.new (signals_in old.draft) (signals_of model) open_signals);
      outputs = numbers_kept names names' d.keeps old.draft.outputs (names_of model.outputs) is.draft_of.outputs;
      added = f ∙ ap (λ (ones : List Adding). ones ++ record { line = line; signals = length words; inputs = length words } ∷ []) is.draft_of.added ∙ sym (map-append adding_inputs model.inputs (named_at line words ∷ []));
      items = items_kept names names' d.keeps model.items old.draft.items is.draft_of.items;
      calls = is.draft_of.calls;
      joined = is.draft_of.joined;
    };
    marked = λ n. (d.after (signals_in old.draft) (signals_of model) open_signals).marked n ∙ in_middle (names_by old.draft.inputs) (flat_map number_defined old.draft.items) ns n
        ∙ ap (λ (ks : List ℕ). is_in (ks ++ flat_map number_defined old.draft.items) n) (sym named);
    many = g ∙ ap (λ k. k + length words) is.many ∙ counted;
  }
    where
      more : formal_inputs (with_inputs line words model) ≡ formal_inputs model ++ words
      more = flat_more (λ (one : Named). one.words) model.inputs (named_at line words)

      named : names_by inputs' ≡ names_by old.draft.inputs ++ ns
      named = ap names_by e ∙ map-append (λ (one : Definition). one.name) old.draft.inputs (map (defined line) ns) ∙ ap (λ ks. names_by old.draft.inputs ++ ks) (names_defined line ns)

      counted : length (signals_of model) + length words ≡ length (signals_of (with_inputs line words model))
      counted =
          let left = length-append (formal_inputs model) (flat_map defined_by model.items) in
          let right = length-append (formal_inputs model ++ words) (flat_map defined_by model.items) in
          let all = length-append (formal_inputs model) words in
          omega (arith, left, right, all) ∙ sym (ap (λ (ws : List Word). length (ws ++ flat_map defined_by model.items)) more)

  -- `.outputs`
  pub outputs_taken : (line : ℕ) (words : List Word) (ns : List ℕ) (names' : List Word) (outputs' : List ℕ) → Keeps names names' → AreNumbersOf (names' ∷ []) 0 ns words → outputs' ≡ old.draft.outputs ++ ns
      → IsOpenOf titles (with_outputs line words model) (opened (record old.draft { names = names'; outputs = outputs' }) old.marks old.signals)
  outputs_taken line words ns names' outputs' k a e = record {
    draft_of = record {
      line = is.draft_of.line;
      title = is.draft_of.title;
      one_number = k.one is.draft_of.one_number;
      inputs = definitions_kept names names' k old.draft.inputs (input_definitions model) is.draft_of.inputs;
      once = is.draft_of.once;
      outputs =
          subst (λ ks. AreNumbersOf (names' ∷ []) 0 ks (names_of (with_outputs line words model).outputs)) (sym e)
          (subst (AreNumbersOf (names' ∷ []) 0 (old.draft.outputs ++ ns)) (sym (flat_more (λ (one : Named). one.words) model.outputs (named_at line words)))
          (append_numbers names' old.draft.outputs (names_of model.outputs) (numbers_kept names names' k old.draft.outputs (names_of model.outputs) is.draft_of.outputs) ns words a));
      added = is.draft_of.added;
      items = items_kept names names' k model.items old.draft.items is.draft_of.items;
      calls = is.draft_of.calls;
      joined = is.draft_of.joined;
    };
    marked = is.marked;
    many = is.many;
  }

  -- a cover or a latch
  pub item_taken : (item : Item) (one : DraftItem) (word : Word) (n : ℕ) (names' : List Word) (marks' : Vec Bool) (items' : List DraftItem) (signals' : ℕ)
      → Defines names old.marks.items (word ∷ []) (n ∷ []) names' marks'.items → IsItemOf names' item one → defined_by item ≡ word ∷ [] → number_defined one ≡ n ∷ [] → instances_in (item ∷ []) ≡ [] → items' ≡ old.draft.items ++ one ∷ []
      → signals' ≡ old.signals + 1 → IsOpenOf titles (with_item item model) (opened (record old.draft { names = names'; items = items' }) marks' signals')
  item_taken item one word n names' marks' items' signals' d a by number none e g = record {
    draft_of = record {
      line = is.draft_of.line;
      title = is.draft_of.title;
      one_number = d.keeps.one is.draft_of.one_number;
      inputs = definitions_kept names names' d.keeps old.draft.inputs (input_definitions model) is.draft_of.inputs;
      once = is.draft_of.once;
      outputs = numbers_kept names names' d.keeps old.draft.outputs (names_of model.outputs) is.draft_of.outputs;
      added = is.draft_of.added;
      items =
          subst (AreItemsOf names' (model.items ++ item ∷ [])) (sym e)
          (append_item names' model.items old.draft.items (items_kept names names' d.keeps model.items old.draft.items is.draft_of.items) item one a);
      calls = subst (λ (ones : List Instance). AreCallsOf titles ones old.draft.calls) (sym (no_instance model.items item none)) is.draft_of.calls;
      joined = subst (λ (ones : List Instance). AreWordsOf ones old.draft.joined) (sym (no_instance model.items item none)) is.draft_of.joined;
    };
    marked = λ k. (d.after (signals_in old.draft) (signals_of model) open_signals).marked k
        ∙ ap (λ (ks : List ℕ). is_in ks k) (append_assoc (names_by old.draft.inputs) (flat_map number_defined old.draft.items) (n ∷ []) ∙ ap (λ (ks : List ℕ). names_by old.draft.inputs ++ ks) (sym numbers));
    many = g ∙ ap (λ k. k + 1) is.many ∙ counted;
  }
    where
      numbers : flat_map number_defined items' ≡ flat_map number_defined old.draft.items ++ n ∷ []
      numbers = ap (flat_map number_defined) e ∙ flat_more number_defined old.draft.items one ∙ ap (λ (ks : List ℕ). flat_map number_defined old.draft.items ++ ks) number

      words : flat_map defined_by (model.items ++ item ∷ []) ≡ flat_map defined_by model.items ++ word ∷ []
      words = flat_more defined_by model.items item ∙ ap (λ (ws : List Word). flat_map defined_by model.items ++ ws) by

      counted : length (signals_of model) + 1 ≡ length (signals_of (with_item item model))
      counted =
          let left = length-append (formal_inputs model) (flat_map defined_by model.items) in
          let right = length-append (formal_inputs model) (flat_map defined_by model.items ++ word ∷ []) in
          let all = length-append (flat_map defined_by model.items) (word ∷ []) in
          omega (arith, left, right, all) ∙ sym (ap (λ (ws : List Word). length (formal_inputs model ++ ws)) words)

  -- an instance
  pub instance_taken : (line : ℕ) (words : List Word) (found : Option (List ℕ)) (call : Call) (joins : List (Bor (List ℕ))) (items' : List DraftItem) (calls' : List Call) (joined' : List (List (Bor (List ℕ))))
      → IsItemOf names (instance_at line words) (drafts.Instance found) → call.line ≡ line → IsTitleOf titles (called_by (record { line = line; words = words })) call.title → drop 1 words ≡ words_in joins
      → items' ≡ old.draft.items ++ drafts.Instance found ∷ [] → calls' ≡ old.draft.calls ++ call ∷ [] → joined' ≡ old.draft.joined ++ joins ∷ []
      → IsOpenOf titles (with_item (instance_at line words) model) (opened (record old.draft { items = items'; calls = calls'; joined = joined' }) old.marks old.signals)
  instance_taken line words found call joins items' calls' joined' a l t w e f g = record {
    draft_of = record {
      line = is.draft_of.line;
      title = is.draft_of.title;
      one_number = is.draft_of.one_number;
      inputs = is.draft_of.inputs;
      once = is.draft_of.once;
      outputs = is.draft_of.outputs;
      added = is.draft_of.added;
      items = subst (AreItemsOf names (model.items ++ instance_at line words ∷ [])) (sym e) (append_item names model.items old.draft.items is.draft_of.items (instance_at line words) (drafts.Instance found) a);
      calls =
          subst (λ (ones : List Instance). AreCallsOf titles ones calls') (sym (one_instance model.items instance))
          (subst (AreCallsOf titles (instances_in model.items ++ instance ∷ [])) (sym f) (append_call titles (instances_in model.items) old.draft.calls is.draft_of.calls instance call l t));
      joined =
          subst (λ (ones : List Instance). AreWordsOf ones joined') (sym (one_instance model.items instance))
          (subst (AreWordsOf (instances_in model.items ++ instance ∷ [])) (sym g) (append_words (instances_in model.items) old.draft.joined is.draft_of.joined instance joins w));
    };
    marked = λ n. is.marked n ∙ ap (λ (ks : List ℕ). is_in (names_by old.draft.inputs ++ ks) n) (sym numbers);
    many = is.many ∙ ap (λ (ws : List Word). length (formal_inputs model ++ ws)) (sym defines);
  }
    where
      instance : Instance
      instance = record { line = line; words = words }

      numbers : flat_map number_defined items' ≡ flat_map number_defined old.draft.items
      numbers = ap (flat_map number_defined) e ∙ flat_more number_defined old.draft.items (drafts.Instance found) ∙ nothing_more (flat_map number_defined old.draft.items)

      defines : flat_map defined_by (model.items ++ instance_at line words ∷ []) ≡ flat_map defined_by model.items
      defines = flat_more defined_by model.items (instance_at line words) ∙ nothing_more (flat_map defined_by model.items)
