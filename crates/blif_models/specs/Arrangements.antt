-- Numbered models in an order in which each stands behind those that it holds, or an instance by which one holds itself.
use Rattle.std.specs.Prelude.{◌≡◌, ℕ, suc, ◌<◌, true, List, [], ◌∷◌, ◌++◌, Option, Some, None, find, length}
use Rattle.std.specs.Option.{option_map}
use Rattle.blif_order.specs.Orders.{Once, Ordered, is_in}
use Rattle.blif_models.specs.declared.arranging.Arrangement.{Arrangement}
use Rattle.blif_models.specs.declared.arranging.Arrangement.TheVariants as arrangements
use Rattle.blif_models.specs.declared.cycles.Holding.{Holding}
use Rattle.blif_models.specs.declared.numbered.Entry.{Entry}
use Rattle.blif_models.specs.declared.numbered.Entry.TheVariants as entries
use Rattle.blif_models.specs.declared.numbered.NumberedModel.{NumberedModel}
use Rattle.blif_models.specs.Graphs.{turns_back}
use Rattle.blif_models.specs.NumberedGraphs.{all_held}

-- the instances among the entries of a model
abbrev pub holdings_by : ℕ → List Entry → List Holding
holdings_by m [] = []
holdings_by m (entries.Instance instance ∷ others) = record { line = instance.line; by = m; model = instance.model } ∷ holdings_by m others
holdings_by m (_ ∷ others) = holdings_by m others

-- and in models, of which the first has this number
abbrev pub holdings_from : ℕ → List NumberedModel → List Holding
holdings_from m [] = []
holdings_from m (model ∷ models) = holdings_by m model.entries ++ holdings_from (suc m) models

-- the first instance by which a model holds itself
abbrev pub turning_in : List NumberedModel → Option Holding
turning_in models = find (turns_back (all_held models)) (holdings_from 0 models)

-- an order of all models, each once
pub record IsArranged (models : List NumberedModel) (order : List ℕ) : Type 0 where
  pub ordered : Ordered (all_held models) [] order
  pub once : Once order
  pub each : (m : ℕ) → m < length models → is_in order m ≡ true
  pub within : (m : ℕ) → is_in order m ≡ true → m < length models
  pub straight : turning_in models ≡ None

abbrev pub ArrangementIs : List NumberedModel → Arrangement → Type 0
ArrangementIs models (arrangements.Ordered order) = IsArranged models order.items
ArrangementIs models (arrangements.Turning line) = option_map (λ one. one.line) (turning_in models) ≡ Some line
