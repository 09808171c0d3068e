-- Instances by number.
use Rattle.std.specs.Prelude.{◌≡◌, ℕ, Bool, true, false, List, Option, Some, None, drop}
use Rattle.std.specs.List.{list_all}
use Rattle.job_words.specs.Text.{Word}
use Rattle.blif_models.specs.declared.numbered.Entry.TheVariants as entries
use Rattle.blif_models.specs.declared.numbered.NumberedInstance.{NumberedInstance}
use Rattle.blif_models.specs.Models.{Instance, Model, called_by, held}
use Rattle.blif_models.specs.Numberings.{IsEntryOf, words_at}
use Rattle.blif_formals.specs.declared.calls.Call.{Call}
use Rattle.blif_formals.specs.declared.formals.Callees.{Callees}
use Rattle.blif_formals.specs.declared.titles.Heading.{Heading}
use Rattle.blif_formals.specs.Actuals.{AreActuals, AreJoinNumbers}
use Rattle.blif_formals.specs.ByNames.{joins_one_of}
use Rattle.blif_formals.specs.Calls.{AreNamed, model_by}
use Rattle.blif_formals.specs.Titles.{IsTitleOf}

-- each of these words joins a name of this model, which is there
abbrev pub joins_known : Callees → Option ℕ → List Word → Bool
joins_known callees None words = false
joins_known callees (Some m) words = list_all (joins_one_of (words_at callees.names.now m)) words

-- The instance is of the model that is called, and joins what these words join, where actual names have these numbers.
pub record IsInstanceBy (callees : Callees) (call : Call) (words : List Word) (actuals : List ℕ) (one : NumberedInstance) : Type 0 where
  pub line : one.line ≡ call.line
  pub model : model_by callees.titles.now call.title ≡ Some one.model
  pub joins : AreJoinNumbers (words_at callees.names.now one.model) words actuals one.joins

-- an instance by number is this one by name
abbrev pub InstancesAgree : Type 0
InstancesAgree =
    (words : List Word) (models : List Model) (headings : List Heading) (callees : Callees) (calls : List (List Call)) (among : ℕ → Bool) (m place : ℕ) (instance : Instance) (call : Call) (behind : List Word) (actuals : List ℕ) (one : NumberedInstance)
    → AreNamed words models headings callees.titles.now calls → IsTitleOf words (called_by instance) call.title → drop 1 instance.words ≡ behind → AreActuals (words_at callees.names.now m) behind actuals
    → IsInstanceBy callees call behind actuals one → among one.model ≡ true → IsEntryOf models among callees.names.now m place (held instance) (entries.Instance one)
