-- Models of which only those that a main one reaches keep their entries are the same models by name.
use Rattle.std.specs.Prelude.{◌≡◌, ℕ, true, false, List, [], length}
use Rattle.job_words.specs.Text.{Word}
use Rattle.blif_models.specs.declared.numbered.NumberedModel.{NumberedModel}
use Rattle.blif_models.specs.Agreement.{IsMain}
use Rattle.blif_models.specs.Graphs.{is_reached}
use Rattle.blif_models.specs.Kept.{reached_models}
use Rattle.blif_models.specs.Layouts.{model_at}
use Rattle.blif_models.specs.Models.{Model}
use Rattle.blif_models.specs.NumberedGraphs.{all_held}

-- Those that are reached stay as they are, and are still reached; the others have no entries; and a main one among them has the same names.
pub record KeptAgree : Type 0 where
  pub same : (numbered : List NumberedModel) (main m : ℕ) → is_reached (all_held numbered) (length numbered) main m ≡ true → model_at (reached_models numbered main) m ≡ model_at numbered m
  pub reached : (numbered : List NumberedModel) (main m : ℕ) → is_reached (all_held numbered) (length numbered) main m ≡ true → is_reached (all_held (reached_models numbered main)) (length (reached_models numbered main)) main m ≡ true
  pub others : (numbered : List NumberedModel) (main m : ℕ) → is_reached (all_held numbered) (length numbered) main m ≡ false → (model_at (reached_models numbered main) m).entries ≡ []
  pub named : (models : List Model) (words : List (List Word)) (numbered : List NumberedModel) (main : ℕ) (model : Model) → IsMain models (is_reached (all_held numbered) (length numbered) main) words numbered main model
      → IsMain models (is_reached (all_held numbered) (length numbered) main) words (reached_models numbered main) main model
