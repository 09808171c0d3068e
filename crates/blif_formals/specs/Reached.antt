-- The first of the lines of those models that a main one reaches.
use Rattle.std.specs.Prelude.{◌≡◌, ℕ, Bool, true, List, [], Option, Some, None, get_or, length, option_to_list, slice_get, if◌then◌else◌}
use Rattle.std.specs.List.{flat_map}
use Rattle.blif_models.specs.Agreement.{AreApart}
use Rattle.blif_models.specs.Graphs.{AreReached, is_met}
use Rattle.blif_models.specs.Layouts.{up_to}
use Rattle.blif_models.specs.ModelFaults.{all_reached, least}
use Rattle.blif_models.specs.ModelGraphs.{IsGraph}
use Rattle.blif_models.specs.Models.{Model}

-- the lines of models that were met, where each has one at most
abbrev pub line_met : List Bool → List (Option ℕ) → ℕ → List ℕ
line_met met lines m = if is_met met m then option_to_list (get_or lines m None) else []

abbrev pub lines_met : List Bool → List (Option ℕ) → List ℕ
lines_met met lines = flat_map (line_met met lines) (up_to (length met))

-- Of what is told at lines of models, the first line is the same by numbers and by names: that of the models which a main one reaches.
abbrev pub ReachedLinesAgree : Type 0
ReachedLinesAgree =
    (models : List Model) (holds : List (List ℕ)) (met : List Bool) (lines : List (Option ℕ)) (told : Model → List ℕ) (main : ℕ) (model : Model) → IsGraph models (λ m. true) holds → AreApart models (λ m. true) → length holds ≡ length models
    → slice_get models main ≡ Some model → AreReached holds main met → ((m : ℕ) (one : Model) → slice_get models m ≡ Some one → is_met met m ≡ true → get_or lines m None ≡ least (told one))
    → least (lines_met met lines) ≡ least (flat_map told (all_reached models model))
