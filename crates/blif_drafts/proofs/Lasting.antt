-- What is told of a draft by names lasts where names keep their numbers.
use Rattle.std.proofs.Common.{◌≡◌, ℕ, List, [], ◌∷◌, ◌++◌, Option, Some, None, ap, ◌∙◌}
use Rattle.std.specs.Prelude.{drop, slice_get}
use Rattle.std.proofs.lemmas.Option.{get_or_from_slice_get, slice_get-get_or, slice_get_within}
use Rattle.job_words.specs.Text.{Word}
use Rattle.blif_models.specs.ModelFaults.{instances_in}
use Rattle.blif_models.specs.Models.{Instance, Item, Model, Use, called_by, covered, held, latched}
use Rattle.blif_models.specs.Numberings.{AreNumbersOf, IsNumberOf}
use Rattle.blif_formals.specs.declared.calls.Call.{Call}
use Rattle.blif_formals.specs.declared.clashes.Definition.{Definition}
use Rattle.blif_formals.specs.Actuals.{Keeps}
use Rattle.blif_formals.specs.ByNames.{AreDefinitionsOf}
use Rattle.blif_formals.specs.Calls.{AreCallsOf}
use Rattle.blif_formals.specs.Titles.{IsTitleOf}
use Rattle.blif_formals.proofs.Numbering.{actuals_kept}
use Rattle.blif_drafts.specs.declared.drafts.Draft.{Draft}
use Rattle.blif_drafts.specs.declared.drafts.DraftItem.{DraftItem}
use Rattle.blif_drafts.specs.declared.drafts.DraftItem.TheVariants as drafts
use Rattle.blif_drafts.specs.Drafts.{AreActualsOf, AreDrafts, AreItemsOf, IsDraftOf, IsItemOf}

pub keeps_both : (old mid new : List Word) → Keeps old mid → Keeps mid new → Keeps old new
keeps_both old mid new a b = record { stay = λ i word at. b.stay i word (a.stay i word at); one = λ h. b.one (a.one h) }

-- numbers behind numbers

pub append_numbers : (names : List Word) (ns : List ℕ) (words : List Word) → AreNumbersOf (names ∷ []) 0 ns words → (ks : List ℕ) (others : List Word) → AreNumbersOf (names ∷ []) 0 ks others → AreNumbersOf (names ∷ []) 0 (ns ++ ks) (words ++ others)
append_numbers names [] [] a ks others b = b
append_numbers names [] (word ∷ words) a ks others b = absurd a
append_numbers names (n ∷ ns) [] a ks others b = absurd a
append_numbers names (n ∷ ns) (word ∷ words) a ks others b = (a.0, append_numbers names ns words a.1 ks others b)

module _ (old new : List Word) (keeps : Keeps old new) where
  pub number_kept : (n : ℕ) (word : Word) → IsNumberOf (old ∷ []) 0 n word → IsNumberOf (new ∷ []) 0 n word
  number_kept n word a =
      let at : slice_get new n ≡ Some word = keeps.stay n word (slice_get-get_or old n [] a.0 ∙ ap Some a.1) in
      (slice_get_within new n word at, get_or_from_slice_get new n word [] at)

  pub numbers_kept : (ns : List ℕ) (words : List Word) → AreNumbersOf (old ∷ []) 0 ns words → AreNumbersOf (new ∷ []) 0 ns words
  numbers_kept [] [] a = tt
  numbers_kept [] (word ∷ words) a = absurd a
  numbers_kept (n ∷ ns) [] a = absurd a
  numbers_kept (n ∷ ns) (word ∷ words) a = (number_kept n word a.0, numbers_kept ns words a.1)

  pub definitions_kept : (ones : List Definition) (uses : List Use) → AreDefinitionsOf (old ∷ []) 0 ones uses → AreDefinitionsOf (new ∷ []) 0 ones uses
  definitions_kept [] [] a = tt
  definitions_kept [] (one_use ∷ uses) a = absurd a
  definitions_kept (one ∷ ones) [] a = absurd a
  definitions_kept (one ∷ ones) (one_use ∷ uses) a = (number_kept one.name one_use.word a.0, a.1, definitions_kept ones uses a.2)

  pub actuals_of_kept : (words : List Word) (found : Option (List ℕ)) → AreActualsOf old words found → AreActualsOf new words found
  actuals_of_kept words None a = a
  actuals_of_kept words (Some ns) a = actuals_kept old new words ns keeps.stay a

  pub item_kept : (item : Item) (one : DraftItem) → IsItemOf old item one → IsItemOf new item one
  item_kept (covered cover) (drafts.Cover numbers) a = (a.0, numbers_kept numbers.ins cover.ins a.1, number_kept numbers.name cover.name a.2)
  item_kept (covered cover) (drafts.Latch numbers) a = absurd a
  item_kept (covered cover) (drafts.Instance found) a = absurd a
  item_kept (latched latch) (drafts.Cover numbers) a = absurd a
  item_kept (latched latch) (drafts.Latch numbers) a = (a.0, number_kept numbers.input latch.input a.1, number_kept numbers.output latch.output a.2)
  item_kept (latched latch) (drafts.Instance found) a = absurd a
  item_kept (held instance) (drafts.Cover numbers) a = absurd a
  item_kept (held instance) (drafts.Latch numbers) a = absurd a
  item_kept (held instance) (drafts.Instance found) a = actuals_of_kept (drop 1 instance.words) found a

  pub items_kept : (items : List Item) (ones : List DraftItem) → AreItemsOf old items ones → AreItemsOf new items ones
  items_kept [] [] a = tt
  items_kept [] (one ∷ ones) a = absurd a
  items_kept (item ∷ items) [] a = absurd a
  items_kept (item ∷ items) (one ∷ ones) a = (item_kept item one a.0, items_kept items ones a.1)

  -- and so where the words are names of models

  pub title_kept : (name : Option Word) (title : Option ℕ) → IsTitleOf old name title → IsTitleOf new name title
  title_kept None None a = tt
  title_kept None (Some n) a = absurd a
  title_kept (Some word) None a = absurd a
  title_kept (Some word) (Some n) a = keeps.stay n word a

  pub calls_kept : (instances : List Instance) (calls : List Call) → AreCallsOf old instances calls → AreCallsOf new instances calls
  calls_kept [] [] a = tt
  calls_kept [] (call ∷ calls) a = absurd a
  calls_kept (one ∷ instances) [] a = absurd a
  calls_kept (one ∷ instances) (call ∷ calls) a = (a.0, title_kept (called_by one) call.title a.1, calls_kept instances calls a.2)

  pub draft_kept : (model : Model) (draft : Draft) → IsDraftOf old model draft → IsDraftOf new model draft
  draft_kept model draft is = record {
    line = is.line;
    title = title_kept model.name draft.heading.title is.title;
    one_number = is.one_number;
    inputs = is.inputs;
    once = is.once;
    outputs = is.outputs;
    added = is.added;
    items = is.items;
    calls = calls_kept (instances_in model.items) draft.calls is.calls;
    joined = is.joined;
  }

  pub drafts_kept : (models : List Model) (all : List Draft) → AreDrafts old models all → AreDrafts new models all
  drafts_kept [] [] a = tt
  drafts_kept [] (draft ∷ others) a = absurd a
  drafts_kept (model ∷ models) [] a = absurd a
  drafts_kept (model ∷ models) (draft ∷ others) a = (draft_kept model draft a.0, drafts_kept models others a.1)
