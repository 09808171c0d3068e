-- Models whose lines rise: what comes of the main one by numbers is what comes of it by names.
use Rattle.std.specs.Prelude.{◌≡◌, ℕ, suc, ◌≤◌, true, List, [], ◌∷◌, Some, All, length, map, slice_get}
use Rattle.std.specs.List.{flat_map}
use Rattle.job_words.specs.Text.{Word}
use Rattle.blif_models.specs.declared.expanding.Outcome.{Outcome}
use Rattle.blif_models.specs.declared.numbered.NumberedModel.{NumberedModel}
use Rattle.blif_models.specs.Additions.{AreRising, lines_of}
use Rattle.blif_models.specs.Agreement.{AreInLines, HasLines, IsMain, NamedOutcomeIs}
use Rattle.blif_models.specs.Expanding.{OutcomeIs}
use Rattle.blif_models.specs.Graphs.{is_reached}
use Rattle.blif_models.specs.Kept.{reached_models}
use Rattle.blif_models.specs.Layouts.{model_at}
use Rattle.blif_models.specs.ModelFaults.{adding_inputs, line_of}
use Rattle.blif_models.specs.Models.{Model}
use Rattle.blif_models.specs.NumberedGraphs.{all_held}

-- each line is higher than those before it, and none is lower than this
abbrev pub RiseFrom : ℕ → List ℕ → Type 0
RiseFrom n [] = Unit {0}
RiseFrom n (line ∷ lines) = (n ≤ line) × RiseFrom (suc line) lines

-- Models begin one behind another, and what stands in them stands on higher and higher lines; so do the inputs of each.
pub record AreRisingModels (models : List Model) : Type 0 where
  pub begins : RiseFrom 0 (map (λ model. model.line) models)
  pub items : RiseFrom 0 (flat_map (λ model. map line_of model.items) models)
  pub inputs : All (λ model. RiseFrom 0 (map (λ one. one.line) model.inputs)) models

-- the entries of what the main model reaches stand on the lines of its items
abbrev pub HaveLines : List Model → List NumberedModel → ℕ → Type 0
HaveLines models numbered main = (m : ℕ) (model : Model) → is_reached (all_held numbered) (length numbered) main m ≡ true → slice_get models m ≡ Some model → HasLines model (model_at numbered m)

-- Of models whose lines rise, the main one's entries and inputs rise; those that it reaches are in lines where the others' entries are taken away; and what comes of the
-- main one by numbers is what comes of it by names.
pub record LinesAgree : Type 0 where
  pub entries : (models : List Model) (numbered : List NumberedModel) (main : ℕ) (model : Model) → AreRisingModels models → slice_get models main ≡ Some model → HasLines model (model_at numbered main) → AreRising (lines_of (model_at numbered main).entries)
  pub inputs : (models : List Model) (main : ℕ) (model : Model) → AreRisingModels models → slice_get models main ≡ Some model → AreRising (map adding_inputs model.inputs)
  pub in_lines : (models : List Model) (numbered : List NumberedModel) (main : ℕ) → length numbered ≡ length models → AreRisingModels models → HaveLines models numbered main
      → AreInLines models (is_reached (all_held numbered) (length numbered) main) (reached_models numbered main) main
  pub outcome : (models : List Model) (words : List (List Word)) (numbered : List NumberedModel) (main : ℕ) (model : Model) (outcome : Outcome) → IsMain models (is_reached (all_held numbered) (length numbered) main) words numbered main model
      → AreRisingModels models → HaveLines models numbered main → OutcomeIs (reached_models numbered main) main (map adding_inputs model.inputs) outcome → NamedOutcomeIs models words model outcome
