-- What comes of a main model of numbered models.
use Rattle.std.specs.Prelude.{◌≡◌, ℕ, ◌-◌, ◌^◌, ◌<◌, List, ◌++◌, Option, Some, None, All, get_or, length, map, vec_len}
use Rattle.std.specs.Option.{option_map}
use Rattle.edge_bits.specs.declared.limits.TheConstants.{MOST_SIGNALS, MOST_VARIABLES}
use Rattle.blif_models.specs.declared.expanding.Counts.{Counts}
use Rattle.blif_models.specs.declared.expanding.Outcome.{Outcome}
use Rattle.blif_models.specs.declared.expanding.Outcome.TheVariants as outcomes
use Rattle.blif_models.specs.declared.layout.Whole.{Whole}
use Rattle.blif_models.specs.declared.limits.Adding.{Adding}
use Rattle.blif_models.specs.declared.numbered.NumberedModel.{NumberedModel}
use Rattle.blif_models.specs.Additions.{adding_by}
use Rattle.blif_models.specs.Arrangements.{IsArranged, turning_in}
use Rattle.blif_models.specs.Graphs.{AreTotals, total_within}
use Rattle.blif_models.specs.Layouts.{counted, laid_whole, main_table, model_at, placed_in}
use Rattle.blif_models.specs.ModelFaults.{by_line, passing_line}
use Rattle.blif_models.specs.NumberedGraphs.{all_held, copies_of, latches_of, signals_of}
use Rattle.blif_models.specs.SpotsApart.{AreNames, HaveOneSpot}
use Rattle.blif_models.specs.Unfinished.{AreMore, LaidIs}

-- what a model has in all, through as many levels as there are models
abbrev pub total_in : List NumberedModel → (NumberedModel → ℕ) → ℕ → ℕ
total_in models own m = total_within (all_held models) (map own models) (length models) m

-- the line by which a main model passes the limits
abbrev pub limit_in : List NumberedModel → ℕ → List Adding → Option ℕ
limit_in models main inputs =
    passing_line MOST_SIGNALS MOST_VARIABLES 0 0 (by_line (inputs ++ map (adding_by (total_in models signals_of) (total_in models latches_of)) (model_at models main).entries))

abbrev pub CountsAre : List NumberedModel → List ℕ → (NumberedModel → ℕ) → List ℕ → Type 0
CountsAre models order own counts = (length counts ≡ length models) × AreTotals (all_held models) (map own models) order counts

-- For each model of an order its signals, latches and copies in all.
pub record AreCounts (models : List NumberedModel) (order : List ℕ) (counts : Counts) : Type 0 where
  pub of_signals : CountsAre models order signals_of counts.signals.items
  pub of_latches : CountsAre models order latches_of counts.latches.items
  pub of_copies : CountsAre models order copies_of counts.copies.items

-- The whole of a main model, by an order of the models, in none of which are 2^64 - 1 copies.
pub record IsWholeOf (models : List NumberedModel) (main : ℕ) (whole : Whole) : Type 0 where
  pub order : List ℕ
  pub copies : List ℕ
  pub signals : List ℕ
  pub arranged : IsArranged models order
  pub of_copies : CountsAre models order copies_of copies
  pub of_signals : CountsAre models order signals_of signals
  pub few : (m : ℕ) → get_or copies m 0 < 2 ^ 64 - 1
  pub whole_is : map (placed_in whole.spots.items) whole.laid.items ≡ laid_whole models (counted copies signals) (length models) main
  pub within : All (LaidIs (vec_len whole.spots)) whole.laid.items
  pub own_names : AreMore (main_table main (model_at models main).names) whole.spots.items
  pub one_spot : HaveOneSpot whole.spots.items
  pub named : AreNames models whole.spots.items

-- each comes only where none before it does: a line by which the limits are passed, and a whole, where there is an order of all models
abbrev pub OutcomeIs : List NumberedModel → ℕ → List Adding → Outcome → Type 0
OutcomeIs models main inputs (outcomes.Turning line) = option_map (λ one. one.line) (turning_in models) ≡ Some line
OutcomeIs models main inputs (outcomes.TooMany line) = (order : List ℕ) × IsArranged models order × (limit_in models main inputs ≡ Some line)
OutcomeIs models main inputs (outcomes.Expanded whole) = (limit_in models main inputs ≡ None) × IsWholeOf models main whole
