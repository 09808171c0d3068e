-- Models while their lines are read: what stands in them by number, where it is not yet known which models their instances are of.
use Rattle.std.specs.Prelude.{◌≡◌, ℕ, ◌<◌, true, false, List, [], ◌∷◌, Option, Some, None, All, drop, map}
use Rattle.std.specs.List.{list_all}
use Rattle.job_words.specs.Text.{Word}
use Rattle.blif_models.specs.declared.numbered.NumberedCover.{NumberedCover}
use Rattle.blif_models.specs.Circuits.{Cover, some_again}
use Rattle.blif_models.specs.ModelFaults.{adding_inputs, formal_inputs, instances_in, is_join}
use Rattle.blif_models.specs.Models.{Item, Model, covered, latched, held, names_of}
use Rattle.blif_models.specs.Numberings.{AreNumbersOf, IsNumberOf}
use Rattle.blif_drafts.specs.declared.drafts.Draft.{Draft}
use Rattle.blif_drafts.specs.declared.drafts.DraftItem.{DraftItem}
use Rattle.blif_drafts.specs.declared.drafts.DraftItem.TheVariants as drafts
use Rattle.blif_formals.specs.Actuals.{AreActuals}
use Rattle.blif_formals.specs.ByNames.{AreDefinitionsOf}
use Rattle.blif_formals.specs.Calls.{AreCallsOf}
use Rattle.blif_formals.specs.Formals.{AreWordsOf}
use Rattle.blif_formals.specs.Joining.{is_once}
use Rattle.blif_formals.specs.Lines.{AreRisingModels}
use Rattle.blif_formals.specs.Titles.{IsTitleOf}
use Rattle.blif_formals.specs.Twice.{input_definitions}
use Rattle.blif_formals.specs.Words.{HaveOneNumber}

-- the numbers of the actual names that these words join, where each joins something
abbrev pub AreActualsOf : List Word → List Word → Option (List ℕ) → Type 0
AreActualsOf names words None = list_all is_join words ≡ false
AreActualsOf names words (Some actuals) = AreActuals names words actuals

abbrev pub IsCoverOf : List Word → NumberedCover → Cover → Type 0
IsCoverOf names numbers cover = (numbers.line ≡ cover.line) × AreNumbersOf (names ∷ []) 0 numbers.ins cover.ins × IsNumberOf (names ∷ []) 0 numbers.name cover.name

-- what stands in a model with these names, one by one
abbrev pub IsItemOf : List Word → Item → DraftItem → Type 0
IsItemOf names (covered cover) (drafts.Cover numbers) = IsCoverOf names numbers cover
IsItemOf names (latched latch) (drafts.Latch numbers) = (numbers.line ≡ latch.line) × IsNumberOf (names ∷ []) 0 numbers.input latch.input × IsNumberOf (names ∷ []) 0 numbers.output latch.output
IsItemOf names (held instance) (drafts.Instance actuals) = AreActualsOf names (drop 1 instance.words) actuals
IsItemOf names _ _ = ⊥

abbrev pub AreItemsOf : List Word → List Item → List DraftItem → Type 0
AreItemsOf names [] [] = Unit {0}
AreItemsOf names (item ∷ items) (draft ∷ others) = IsItemOf names item draft × AreItemsOf names items others
AreItemsOf names _ _ = ⊥

-- The draft is a model's, whose inputs are different names: its line, the number of its name among the names of models, its own names,
-- inputs, outputs, what its lines of inputs add, and what stands in it, with the calls of its instances and the words behind them.
pub record IsDraftOf (titles : List Word) (model : Model) (draft : Draft) : Type 0 where
  pub line : draft.heading.line ≡ model.line
  pub title : IsTitleOf titles model.name draft.heading.title
  pub one_number : HaveOneNumber draft.names
  pub inputs : AreDefinitionsOf (draft.names ∷ []) 0 draft.inputs (input_definitions model)
  pub once : some_again [] (formal_inputs model) ≡ false
  pub outputs : AreNumbersOf (draft.names ∷ []) 0 draft.outputs (names_of model.outputs)
  pub added : draft.added ≡ map adding_inputs model.inputs
  pub items : AreItemsOf draft.names model.items draft.items
  pub calls : AreCallsOf titles (instances_in model.items) draft.calls
  pub joined : AreWordsOf (instances_in model.items) draft.joined

-- drafts are those of these models, one by one
abbrev pub AreDrafts : List Word → List Model → List Draft → Type 0
AreDrafts titles [] [] = Unit {0}
AreDrafts titles (model ∷ models) (draft ∷ others) = IsDraftOf titles model draft × AreDrafts titles models others
AreDrafts titles _ _ = ⊥

-- Drafts are those of models whose lines rise, and no name of a model has two numbers.
pub record AreDraftsOf (titles : List Word) (models : List Model) (all : List Draft) : Type 0 where
  pub one_number : HaveOneNumber titles
  pub drafts_are : AreDrafts titles models all
  pub rising : AreRisingModels models

-- A draft's inputs and outputs are names of it, and no input stands twice.
pub record HasPorts (names : ℕ) (inputs outputs : List ℕ) : Type 0 where
  pub inputs_within : All (λ n. n < names) inputs
  pub once : is_once inputs ≡ true
  pub outputs_within : All (λ n. n < names) outputs
