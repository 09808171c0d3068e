-- Signals that are defined twice, in the models that a main one reaches.
use Rattle.std.specs.Prelude.{◌≡◌, ℕ, ◌<◌, Bool, true, List, [], ◌++◌, Option, Some, All, get_or, length, map, slice_get}
use Rattle.std.specs.List.{flat_map}
use Rattle.job_words.specs.Text.{Word}
use Rattle.blif_models.specs.declared.numbered.NumberedModel.{NumberedModel}
use Rattle.blif_models.specs.Agreement.{AreApart, HasLines}
use Rattle.blif_models.specs.Graphs.{AreReached, is_met}
use Rattle.blif_models.specs.Layouts.{AreNumbered, model_at, up_to}
use Rattle.blif_models.specs.ModelFaults as faults
use Rattle.blif_models.specs.ModelFaults.{least}
use Rattle.blif_models.specs.ModelGraphs.{IsGraph}
use Rattle.blif_models.specs.Models.{Model, Use, uses_on}
use Rattle.blif_models.specs.Numberings.{IsNumbering}
use Rattle.blif_formals.specs.declared.clashes.Definition.{Definition}
use Rattle.blif_formals.specs.declared.interface.Interface.{Interface}
use Rattle.blif_formals.specs.ByNames.{AreDefinitionsOf}
use Rattle.blif_formals.specs.Clashes.{clashes}
use Rattle.blif_formals.specs.Definitions.{AreInterfacesOf, definitions_by, ports_at}
use Rattle.blif_formals.specs.Reached.{lines_met}

-- what a model defines, its inputs first
abbrev pub definitions_in : List Interface → List Definition → NumberedModel → List Definition
definitions_in interfaces inputs model = inputs ++ flat_map (definitions_by interfaces) model.entries

-- the first line by which a model defines a signal twice
abbrev pub clash_first : List Interface → List (List Definition) → List NumberedModel → ℕ → Option ℕ
clash_first interfaces inputs models m = least (clashes (definitions_in interfaces (get_or inputs m []) (model_at models m)))

-- that of each of so many models
abbrev pub clash_firsts : List Interface → List (List Definition) → List NumberedModel → ℕ → List (Option ℕ)
clash_firsts interfaces inputs models count = map (clash_first interfaces inputs models) (up_to count)

-- and of those that were met
abbrev pub clash_lines : List Interface → List (List Definition) → List NumberedModel → List Bool → List ℕ
clash_lines interfaces inputs models met = lines_met met (clash_firsts interfaces inputs models (length models))

-- Models by number, each with an interface for its names, and definitions of its inputs, which are some of them.
pub record AreDefining (interfaces : List Interface) (inputs : List (List Definition)) (models : List NumberedModel) : Type 0 where
  pub numbered : AreNumbered models
  pub interfaces_many : length interfaces ≡ length models
  pub ports : (m : ℕ) → m < length models → length (ports_at interfaces m) ≡ (model_at models m).names
  pub inputs_many : length inputs ≡ length models
  pub names : (m : ℕ) → m < length models → All (λ one. one.name < (model_at models m).names) (get_or inputs m [])

-- the definitions of a model's inputs, by name
abbrev pub input_definitions : Model → List Use
input_definitions model = flat_map (λ one. uses_on one.line one.words) model.inputs

-- Some of the models are those by name with these words: what stands in them, on its lines, their interfaces, and the definitions of their
-- inputs.
pub record AreDefiningBy (models : List Model) (among : ℕ → Bool) (words : List (List Word)) (interfaces : List Interface) (inputs : List (List Definition)) (numbered : List NumberedModel) : Type 0 where
  pub numbering : IsNumbering models among words numbered
  pub interfaces_are : AreInterfacesOf models among words interfaces
  pub inputs_are : (m : ℕ) (model : Model) → among m ≡ true → slice_get models m ≡ Some model → AreDefinitionsOf words m (get_or inputs m []) (input_definitions model)
  pub lines_are : (m : ℕ) (model : Model) → among m ≡ true → slice_get models m ≡ Some model → HasLines model (model_at numbered m)
  pub as_many : length numbered ≡ length models

-- the first line by which a signal is defined twice is the same by numbers and by names
abbrev pub TwiceLinesAgree : Type 0
TwiceLinesAgree =
    (models : List Model) (words : List (List Word)) (interfaces : List Interface) (inputs : List (List Definition)) (numbered : List NumberedModel) (holds : List (List ℕ)) (met : List Bool) (main : ℕ) (model : Model)
    → AreDefiningBy models (is_met met) words interfaces inputs numbered → IsGraph models (λ m. true) holds → AreApart models (λ m. true) → length holds ≡ length models → slice_get models main ≡ Some model → AreReached holds main met
    → least (clash_lines interfaces inputs numbered met) ≡ least (faults.twice_lines models model)
