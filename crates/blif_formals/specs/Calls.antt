-- Which models instances are of, by the numbers of their names.
use Rattle.std.specs.Prelude.{◌≡◌, ℕ, Bool, true, List, [], ◌∷◌, ◌++◌, Option, Some, None, All, drop, filter, get_or, map, option_map, option_to_list, slice_get}
use Rattle.std.specs.List.{flat_map}
use Rattle.std.specs.Option.{is_none}
use Rattle.job_words.specs.Text.{Word}
use Rattle.blif_models.specs.Agreement.{AreApart}
use Rattle.blif_models.specs.Graphs.{AreReached}
use Rattle.blif_models.specs.ModelFaults.{instances_in, least, model_lines}
use Rattle.blif_models.specs.ModelGraphs.{IsGraph}
use Rattle.blif_models.specs.Models.{Instance, Model, called_by}
use Rattle.blif_formals.specs.declared.calls.Call.{Call}
use Rattle.blif_formals.specs.declared.titles.Heading.{Heading}
use Rattle.blif_formals.specs.declared.titles.Title.{Title}
use Rattle.blif_formals.specs.Reached.{lines_met}
use Rattle.blif_formals.specs.Titles.{AreHeadingsOf, IsTitleBelow, IsTitleOf, mistitled_lines, title_of}
use Rattle.blif_formals.specs.Words.{HaveOneNumber}

-- the model of a name
abbrev pub model_by : List (Option Title) → Option ℕ → Option ℕ
model_by titles None = None
model_by titles (Some n) = option_map (λ title. title.model) (get_or titles n None)

-- the models that are there, of instances
abbrev pub held_by : List (Option Title) → List Call → List ℕ
held_by titles calls = flat_map (λ call. option_to_list (model_by titles call.title)) calls

-- the lines of instances of none
abbrev pub unknown_lines : List (Option Title) → List Call → List ℕ
unknown_lines titles calls = map (λ call. call.line) (filter (λ call. is_none (model_by titles call.title)) calls)

abbrev pub AreCallsBelow : ℕ → List Call → Type 0
AreCallsBelow names calls = All (λ call. IsTitleBelow names call.title) calls

-- further models without a name of their own, and instances of no model in the models that were met
abbrev pub nameless_lines : List Heading → List (Option Title) → List (List Call) → List Bool → List ℕ
nameless_lines headings titles calls met = mistitled_lines headings ++ lines_met met (map (λ ones. least (unknown_lines titles ones)) calls)

-- calls are these instances, one by one
abbrev pub AreCallsOf : List Word → List Instance → List Call → Type 0
AreCallsOf words [] [] = Unit {0}
AreCallsOf words (instance ∷ instances) (call ∷ calls) = (call.line ≡ instance.line) × IsTitleOf words (called_by instance) call.title × AreCallsOf words instances calls
AreCallsOf words _ _ = ⊥

-- and those of models
abbrev pub AreAllCallsOf : List Word → List Model → List (List Call) → Type 0
AreAllCallsOf words [] [] = Unit {0}
AreAllCallsOf words (model ∷ models) (ones ∷ calls) = AreCallsOf words (instances_in model.items) ones × AreAllCallsOf words models calls
AreAllCallsOf words _ _ = ⊥

-- Models by name, the main one first, with the numbers of the names that they have and call.
pub record AreNamed (words : List Word) (models : List Model) (headings : List Heading) (titles : List (Option Title)) (calls : List (List Call)) : Type 0 where
  pub one_number : HaveOneNumber words
  pub headings_are : AreHeadingsOf words models headings
  pub titles_are : (n : ℕ) → get_or titles n None ≡ title_of headings n
  pub calls_are : AreAllCallsOf words models calls

-- What models hold, and the first line by which a model is not named as it should be, are the same by numbers and by names.
pub record CallsAgree : Type 0 where
  pub graph : (words : List Word) (models : List Model) (headings : List Heading) (titles : List (Option Title)) (calls : List (List Call)) → AreNamed words models headings titles calls → IsGraph models (λ m. true) (map (held_by titles) calls)
  pub nameless : (words : List Word) (models : List Model) (headings : List Heading) (titles : List (Option Title)) (calls : List (List Call)) (met : List Bool) (main : Model) → AreNamed words models headings titles calls
      → AreApart models (λ m. true) → slice_get models 0 ≡ Some main → AreReached (map (held_by titles) calls) 0 met → least (model_lines models main (drop 1 models)) ≡ least (nameless_lines headings titles calls met)
