-- A cover that is laid out has the line of the cover that it is by name.
use Rattle.std.specs.Prelude.{◌≡◌, ℕ, Bool, true, List, Some, All, map, slice_get}
use Rattle.job_words.specs.Text.{Word}
use Rattle.blif_models.specs.declared.layout.Whole.{Whole}
use Rattle.blif_models.specs.declared.numbered.NumberedModel.{NumberedModel}
use Rattle.blif_models.specs.Agreement.{HasLines, IsMain}
use Rattle.blif_models.specs.Expanding.{IsWholeOf}
use Rattle.blif_models.specs.Layouts.{Placed, covered, latched, model_at, placed_in}
use Rattle.blif_models.specs.Models.{Model}
use Rattle.blif_models.specs.Numberings.{cover_at}

abbrev pub IsLined : List Model → Placed → Type 0
IsLined models (covered one) = one.line ≡ (cover_at models one.model one.place).line
IsLined models (latched one) = Unit {0}

-- where entries stand on the lines of items, each cover of a whole has the line of the model's cover
abbrev pub WholesAreLined : Type 0
WholesAreLined =
    (models : List Model) (among : ℕ → Bool) (words : List (List Word)) (numbered : List NumberedModel) (main : ℕ) (model : Model) (whole : Whole) → IsMain models among words numbered main model
    → ((m : ℕ) (one : Model) → among m ≡ true → slice_get models m ≡ Some one → HasLines one (model_at numbered m)) → IsWholeOf numbered main whole
    → All (IsLined models) (map (placed_in whole.spots.items) whole.laid.items)
