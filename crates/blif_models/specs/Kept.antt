-- Numbered models of which only some have entries.
use Rattle.std.specs.Prelude.{ℕ, suc, Bool, List, [], ◌∷◌, length, if◌then◌else◌}
use Rattle.blif_models.specs.declared.numbered.NumberedModel.{NumberedModel}
use Rattle.blif_models.specs.Graphs.{is_reached}
use Rattle.blif_models.specs.NumberedGraphs.{all_held}

abbrev pub emptied : NumberedModel → NumberedModel
emptied model = record model { entries = [] }

-- models of which the first has this number, without the entries of those that are not among these
abbrev pub kept_from : (ℕ → Bool) → ℕ → List NumberedModel → List NumberedModel
kept_from among m [] = []
kept_from among m (model ∷ models) = (if among m then model else emptied model) ∷ kept_from among (suc m) models

-- models without the entries of those that the main one does not hold through any number of levels
abbrev pub reached_models : List NumberedModel → ℕ → List NumberedModel
reached_models models main = kept_from (is_reached (all_held models) (length models) main) 0 models
