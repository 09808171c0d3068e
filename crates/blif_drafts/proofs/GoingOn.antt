-- Lines that go on.
use Rattle.std.proofs.Common.{◌≡◌, ℕ, suc, ◌≤◌, List, [], ◌∷◌, ◌++◌, Option, append_assoc, flat_map, length, map, refl, ap, sym, ◌∙◌, subst, arith}
use Rattle.std.specs.Prelude.{All}
use Rattle.std.proofs.lemmas.List.{map-append}
use Rattle.std.proofs.lemmas.List.Elements.{All-append, All-cons, All-head, All-nil, All-tail}
use Rattle.job_words.specs.Text.{Word}
use Rattle.blif_models.specs.Circuits.{Cover, Row}
use Rattle.blif_models.specs.ModelFaults.{formal_inputs, instances_in, line_of}
use Rattle.blif_models.specs.Models.{Instance, Item, Model, Named, covered}
use Rattle.blif_formals.specs.Calls.{AreCallsOf}
use Rattle.blif_formals.specs.Formals.{AreWordsOf}
use Rattle.blif_formals.specs.Lines.{RiseFrom}
use Rattle.blif_formals.proofs.Numbering.{keeps_all}
use Rattle.blif_drafts.specs.declared.drafts.Draft.{Draft}
use Rattle.blif_drafts.specs.declared.drafts.DraftItem.{DraftItem}
use Rattle.blif_drafts.specs.declared.drafts.DraftItem.TheVariants as drafts
use Rattle.blif_drafts.specs.declared.open_draft.OpenDraft.{OpenDraft}
use Rattle.blif_drafts.specs.Drafts.{AreDrafts, AreItemsOf, IsDraftOf}
use Rattle.blif_drafts.specs.Lasting.{AllBelow, AreBelow, DraftsLast, LinesGoOn, input_lines, item_lines, with_rows}
use Rattle.blif_drafts.specs.OpenDrafts.{IsOpenOf, bare_model, named_at, with_inputs, with_item, with_outputs}
use Rattle.blif_drafts.specs.Signals.{defined_by}
use Rattle.blif_drafts.proofs.Lasting.{drafts_kept}
use Rattle.blif_drafts.proofs.LineByLine.{flat_more, more_names, no_instance}
use Rattle.blif_drafts.proofs.Marking.{nothing_more}

below_later : (line n : ℕ) → line ≤ n → (ls : List ℕ) → AllBelow line ls → AllBelow n ls
below_later line n le [] a = tt
below_later line n le (l ∷ ls) a = (let lt = a.0 in omega (arith, le, lt), below_later line n le ls a.1)

below_more : (line : ℕ) (ls : List ℕ) → AllBelow line ls → AllBelow (suc line) (ls ++ line ∷ [])
below_more line [] a = (omega arith, tt)
below_more line (l ∷ ls) a = (let lt = a.0 in omega (arith, lt), below_more line ls a.1)

below_behind : (line : ℕ) (front back : List ℕ) → AllBelow line (front ++ back) → AllBelow line back
below_behind line [] back a = a
below_behind line (l ∷ front) back a = below_behind line front back a.1

rise_more : (low line : ℕ) → low ≤ line → (ls : List ℕ) → AllBelow line ls → RiseFrom low ls → RiseFrom low (ls ++ line ∷ [])
rise_more low line le [] a r = (le, tt)
rise_more low line le (l ∷ ls) a r = (r.0, rise_more (suc l) line (let lt = a.0 in omega (arith, lt)) ls a.1 r.1)

-- the last of several models

last_of : {X : Type 0} (f : Model → X) (models : List Model) (one other : Model) → f one ≡ f other → map f (models ++ one ∷ []) ≡ map f (models ++ other ∷ [])
last_of f [] one other e = ap (λ t. t ∷ []) e
last_of f (k ∷ models) one other e = ap (λ t. f k ∷ t) (last_of f models one other e)

last_all : {X : Type 0} (f : Model → List X) (models : List Model) (one other : Model) → f one ≡ f other → flat_map f (models ++ one ∷ []) ≡ flat_map f (models ++ other ∷ [])
last_all f models one other e = flat_more f models one ∙ ap (λ t. flat_map f models ++ t) e ∙ sym (flat_more f models other)

last_more : {X : Type 0} (f : Model → List X) (models : List Model) (one other : Model) (x : X) → f other ≡ f one ++ x ∷ [] → flat_map f (models ++ other ∷ []) ≡ flat_map f (models ++ one ∷ []) ++ x ∷ []
last_more f models one other x e =
    flat_more f models other ∙ ap (λ t. flat_map f models ++ t) e ∙ sym (append_assoc (flat_map f models) (f one) (x ∷ [])) ∙ ap (λ t. t ++ x ∷ []) (sym (flat_more f models one))

last_held : (P : Model → Type 0) (models : List Model) (one : Model) → All P (models ++ one ∷ []) → P one
last_held P [] one a = All-head P one [] a
last_held P (k ∷ models) one a = last_held P models one (All-tail P k (models ++ one ∷ []) a)

last_other : (P : Model → Type 0) (models : List Model) (one other : Model) → (P one → P other) → All P (models ++ one ∷ []) → All P (models ++ other ∷ [])
last_other P [] one other f a = All-cons P other [] (f (All-head P one [] a)) (All-nil P)
last_other P (k ∷ models) one other f a = All-cons P k (models ++ other ∷ []) (All-head P k (models ++ one ∷ []) a) (last_other P models one other f (All-tail P k (models ++ one ∷ []) a))

abbrev line_in : Model → ℕ
line_in model = model.line

abbrev items_on : Model → List ℕ
items_on model = map line_of model.items

abbrev inputs_on : Model → List ℕ
inputs_on model = map (λ (one : Named). one.line) model.inputs

abbrev InputsRise : Model → Type 0
InputsRise model = RiseFrom 0 (inputs_on model)

no_models : (line : ℕ) → AreBelow line []
no_models line = record { rising = record { begins = tt; items = tt; inputs = All-nil InputsRise }; begins = tt; items = tt; inputs = tt }

still_below : (line n : ℕ) (models : List Model) → line ≤ n → AreBelow line models → AreBelow n models
still_below line n models le a = record {
  rising = a.rising;
  begins = below_later line n le (map line_in models) a.begins;
  items = below_later line n le (item_lines models) a.items;
  inputs = below_later line n le (input_lines models) a.inputs;
}

one_begun : (line : ℕ) (name : Option Word) (models : List Model) → AreBelow line models → AreBelow (suc line) (models ++ bare_model line name ∷ [])
one_begun line name models a =
    let model = bare_model line name in
    let up : line ≤ suc line = omega arith in
    let begins : map line_in (models ++ model ∷ []) ≡ map line_in models ++ line ∷ [] = map-append line_in models (model ∷ []) in
    let items : item_lines (models ++ model ∷ []) ≡ item_lines models = flat_more items_on models model ∙ nothing_more (item_lines models) in
    let inputs : input_lines (models ++ model ∷ []) ≡ input_lines models = flat_more inputs_on models model ∙ nothing_more (input_lines models) in
    record {
      rising = record {
        begins = subst (RiseFrom 0) (sym begins) (rise_more 0 line (omega arith) (map line_in models) a.begins a.rising.begins);
        items = subst (RiseFrom 0) (sym items) a.rising.items;
        inputs = All-append InputsRise models (model ∷ []) a.rising.inputs (All-cons InputsRise model [] tt (All-nil InputsRise));
      };
      begins = subst (AllBelow (suc line)) (sym begins) (below_more line (map line_in models) a.begins);
      items = subst (AllBelow (suc line)) (sym items) (below_later line (suc line) up (item_lines models) a.items);
      inputs = subst (AllBelow (suc line)) (sym inputs) (below_later line (suc line) up (input_lines models) a.inputs);
    }

more_inputs : (line : ℕ) (words : List Word) (models : List Model) (model : Model) → AreBelow line (models ++ model ∷ []) → AreBelow (suc line) (models ++ with_inputs line words model ∷ [])
more_inputs line words models model a =
    let other = with_inputs line words model in
    let up : line ≤ suc line = omega arith in
    let own : inputs_on other ≡ inputs_on model ++ line ∷ [] = map-append (λ (one : Named). one.line) model.inputs (named_at line words ∷ []) in
    let begins : map line_in (models ++ model ∷ []) ≡ map line_in (models ++ other ∷ []) = last_of line_in models model other refl in
    let items : item_lines (models ++ model ∷ []) ≡ item_lines (models ++ other ∷ []) = last_all items_on models model other refl in
    let inputs : input_lines (models ++ other ∷ []) ≡ input_lines (models ++ model ∷ []) ++ line ∷ [] = last_more inputs_on models model other line own in
    let below : AllBelow line (inputs_on model) = below_behind line (input_lines models) (inputs_on model) (subst (AllBelow line) (flat_more inputs_on models model) a.inputs) in
    record {
      rising = record {
        begins = subst (RiseFrom 0) begins a.rising.begins;
        items = subst (RiseFrom 0) items a.rising.items;
        inputs = last_other InputsRise models model other (λ r. subst (RiseFrom 0) (sym own) (rise_more 0 line (omega arith) (inputs_on model) below r)) a.rising.inputs;
      };
      begins = subst (AllBelow (suc line)) begins (below_later line (suc line) up (map line_in (models ++ model ∷ [])) a.begins);
      items = subst (AllBelow (suc line)) items (below_later line (suc line) up (item_lines (models ++ model ∷ [])) a.items);
      inputs = subst (AllBelow (suc line)) (sym inputs) (below_more line (input_lines (models ++ model ∷ [])) a.inputs);
    }

more_outputs : (line : ℕ) (words : List Word) (models : List Model) (model : Model) → AreBelow line (models ++ model ∷ []) → AreBelow line (models ++ with_outputs line words model ∷ [])
more_outputs line words models model a =
    let other = with_outputs line words model in
    let begins : map line_in (models ++ model ∷ []) ≡ map line_in (models ++ other ∷ []) = last_of line_in models model other refl in
    let items : item_lines (models ++ model ∷ []) ≡ item_lines (models ++ other ∷ []) = last_all items_on models model other refl in
    let inputs : input_lines (models ++ model ∷ []) ≡ input_lines (models ++ other ∷ []) = last_all inputs_on models model other refl in
    record {
      rising = record {
        begins = subst (RiseFrom 0) begins a.rising.begins;
        items = subst (RiseFrom 0) items a.rising.items;
        inputs = last_other InputsRise models model other (λ r. r) a.rising.inputs;
      };
      begins = subst (AllBelow line) begins a.begins;
      items = subst (AllBelow line) items a.items;
      inputs = subst (AllBelow line) inputs a.inputs;
    }

more_items : (item : Item) (models : List Model) (model : Model) → AreBelow (line_of item) (models ++ model ∷ []) → AreBelow (suc (line_of item)) (models ++ with_item item model ∷ [])
more_items item models model a =
    let other = with_item item model in
    let line = line_of item in
    let up : line ≤ suc line = omega arith in
    let own : items_on other ≡ items_on model ++ line ∷ [] = map-append line_of model.items (item ∷ []) in
    let begins : map line_in (models ++ model ∷ []) ≡ map line_in (models ++ other ∷ []) = last_of line_in models model other refl in
    let inputs : input_lines (models ++ model ∷ []) ≡ input_lines (models ++ other ∷ []) = last_all inputs_on models model other refl in
    let items : item_lines (models ++ other ∷ []) ≡ item_lines (models ++ model ∷ []) ++ line ∷ [] = last_more items_on models model other line own in
    record {
      rising = record {
        begins = subst (RiseFrom 0) begins a.rising.begins;
        items = subst (RiseFrom 0) (sym items) (rise_more 0 line (omega arith) (item_lines (models ++ model ∷ [])) a.items a.rising.items);
        inputs = last_other InputsRise models model other (λ r. r) a.rising.inputs;
      };
      begins = subst (AllBelow (suc line)) begins (below_later line (suc line) up (map line_in (models ++ model ∷ [])) a.begins);
      items = subst (AllBelow (suc line)) (sym items) (below_more line (item_lines (models ++ model ∷ [])) a.items);
      inputs = subst (AllBelow (suc line)) inputs (below_later line (suc line) up (input_lines (models ++ model ∷ [])) a.inputs);
    }

more_rows : (line : ℕ) (cover : Cover) (rows : List Row) (models : List Model) (model : Model) → AreBelow line (models ++ with_item (covered cover) model ∷ []) → AreBelow line (models ++ with_item (covered (with_rows cover rows)) model ∷ [])
more_rows line cover rows models model a =
    let one = with_item (covered cover) model in
    let other = with_item (covered (with_rows cover rows)) model in
    let own : items_on one ≡ items_on other = map-append line_of model.items (covered cover ∷ []) ∙ sym (map-append line_of model.items (covered (with_rows cover rows) ∷ [])) in
    let begins : map line_in (models ++ one ∷ []) ≡ map line_in (models ++ other ∷ []) = last_of line_in models one other refl in
    let items : item_lines (models ++ one ∷ []) ≡ item_lines (models ++ other ∷ []) = last_all items_on models one other own in
    let inputs : input_lines (models ++ one ∷ []) ≡ input_lines (models ++ other ∷ []) = last_all inputs_on models one other refl in
    record {
      rising = record {
        begins = subst (RiseFrom 0) begins a.rising.begins;
        items = subst (RiseFrom 0) items a.rising.items;
        inputs = last_other InputsRise models one other (λ r. r) a.rising.inputs;
      };
      begins = subst (AllBelow line) begins a.begins;
      items = subst (AllBelow line) items a.items;
      inputs = subst (AllBelow line) inputs a.inputs;
    }

pub lines_go_on : LinesGoOn
lines_go_on = record {
  none = no_models;
  later = still_below;
  begun = one_begun;
  inputs = more_inputs;
  outputs = more_outputs;
  item = more_items;
  rows = more_rows;
}

-- other rows in the last cover

last_rows : (names : List Word) (items : List Item) (ones : List DraftItem) (cover : Cover) (rows : List Row) → AreItemsOf names (items ++ covered cover ∷ []) ones → AreItemsOf names (items ++ covered (with_rows cover rows) ∷ []) ones
last_rows names [] [] cover rows a = absurd a
last_rows names [] (drafts.Cover numbers ∷ ones) cover rows a = (a.0, ending ones a.1)
  where
    ending : (ones : List DraftItem) → AreItemsOf names [] ones → AreItemsOf names [] ones
    ending ones b = b
last_rows names [] (drafts.Latch numbers ∷ ones) cover rows a = absurd a.0
last_rows names [] (drafts.Instance found ∷ ones) cover rows a = absurd a.0
last_rows names (item ∷ items) [] cover rows a = absurd a
last_rows names (item ∷ items) (one ∷ ones) cover rows a = (a.0, last_rows names items ones cover rows a.1)

other_rows : (titles : List Word) (model : Model) (cover : Cover) (rows : List Row) (one : OpenDraft) → IsOpenOf titles (with_item (covered cover) model) one → IsOpenOf titles (with_item (covered (with_rows cover rows)) model) one
other_rows titles model cover rows one is =
    let same : instances_in (model.items ++ covered cover ∷ []) ≡ instances_in (model.items ++ covered (with_rows cover rows) ∷ []) =
    no_instance model.items (covered cover) refl ∙ sym (no_instance model.items (covered (with_rows cover rows)) refl) in
    let defines : flat_map defined_by (model.items ++ covered cover ∷ []) ≡ flat_map defined_by (model.items ++ covered (with_rows cover rows) ∷ []) =
    flat_more defined_by model.items (covered cover) ∙ sym (flat_more defined_by model.items (covered (with_rows cover rows))) in
    record {
      draft_of = record {
        line = is.draft_of.line;
        title = is.draft_of.title;
        one_number = is.draft_of.one_number;
        inputs = is.draft_of.inputs;
        once = is.draft_of.once;
        outputs = is.draft_of.outputs;
        added = is.draft_of.added;
        items = last_rows one.draft.names model.items one.draft.items cover rows is.draft_of.items;
        calls = subst (λ (ones : List Instance). AreCallsOf titles ones one.draft.calls) same is.draft_of.calls;
        joined = subst (λ (ones : List Instance). AreWordsOf ones one.draft.joined) same is.draft_of.joined;
      };
      marked = is.marked;
      many = is.many ∙ ap (λ (ws : List Word). length (formal_inputs model ++ ws)) defines;
    }

pub one_draft_more : (titles : List Word) (models : List Model) (model : Model) (all : List Draft) (draft : Draft) → AreDrafts titles models all → IsDraftOf titles model draft → AreDrafts titles (models ++ model ∷ []) (all ++ draft ∷ [])
one_draft_more titles [] model [] draft a b = (b, tt)
one_draft_more titles [] model (d ∷ all) draft a b = absurd a
one_draft_more titles (m ∷ models) model [] draft a b = absurd a
one_draft_more titles (m ∷ models) model (d ∷ all) draft a b = (a.0, one_draft_more titles models model all draft a.1 b)

pub drafts_last : DraftsLast
drafts_last = record {
  titles = λ old new models all keeps a. record { one_number = keeps.one a.one_number; drafts_are = drafts_kept old new keeps models all a.drafts_are; rising = a.rising };
  opened = λ old new model one keeps is. more_names old model one is new one.draft.names keeps (keeps_all one.draft.names);
  rows = other_rows;
  more = λ titles models model all draft one a b rising. record { one_number = one; drafts_are = one_draft_more titles models model all draft a b; rising = rising };
}
