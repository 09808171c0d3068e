-- What numbered models hold, and what each has itself.
use Rattle.std.specs.Prelude.{◌≡◌, ℕ, Bool, true, List, [], ◌∷◌, Some, map, sum_by, slice_get}
use Rattle.job_words.specs.Text.{Word}
use Rattle.blif_order.specs.Orders.{Ordered, is_in}
use Rattle.blif_models.specs.declared.graph.Own.{Own}
use Rattle.blif_models.specs.declared.numbered.Entry.{Entry}
use Rattle.blif_models.specs.declared.numbered.Entry.TheVariants as entries
use Rattle.blif_models.specs.declared.numbered.NumberedInstance.{NumberedInstance}
use Rattle.blif_models.specs.declared.numbered.NumberedModel.{NumberedModel}
use Rattle.blif_models.specs.Models.{Model}
use Rattle.blif_models.specs.Layouts.{IsRanked, model_at}
use Rattle.blif_models.specs.ModelGraphs.{AreNoted, IsGraph, own_copies, own_latches, own_signals}
use Rattle.blif_models.specs.Numberings.{IsNumbering}
use Rattle.blif_models.specs.Orderings.{place_in}

-- the models that some entries hold
abbrev pub held_by : List Entry → List ℕ
held_by [] = []
held_by (entries.Instance instance ∷ others) = instance.model ∷ held_by others
held_by (_ ∷ others) = held_by others

abbrev pub all_held : List NumberedModel → List (List ℕ)
all_held models = map (λ model. held_by model.entries) models

-- what an entry counts for: signals, latches and copies
abbrev pub own_of : Entry → Own
own_of (entries.Cover cover) = record { signals = 1; latches = 0; copies = 0 }
own_of (entries.Latch latch) = record { signals = 1; latches = 1; copies = 0 }
own_of (entries.Instance instance) = record { signals = 0; latches = 0; copies = 1 }

abbrev pub signals_of : NumberedModel → ℕ
signals_of model = sum_by (λ entry. (own_of entry).signals) model.entries

abbrev pub latches_of : NumberedModel → ℕ
latches_of model = sum_by (λ entry. (own_of entry).latches) model.entries

abbrev pub copies_of : NumberedModel → ℕ
copies_of model = sum_by (λ entry. (own_of entry).copies) model.entries

-- What numbered models hold and have is what the models by name hold and have; and the places of an order are ranks where the models
-- that stand in no order hold none.
pub record NumberedAreGraphs : Type 0 where
  pub graph : (models : List Model) (among : ℕ → Bool) (words : List (List Word)) (numbered : List NumberedModel) → IsNumbering models among words numbered → IsGraph models among (all_held numbered)
  pub signals : (models : List Model) (among : ℕ → Bool) (words : List (List Word)) (numbered : List NumberedModel) → IsNumbering models among words numbered → AreNoted models among own_signals (map signals_of numbered)
  pub latches : (models : List Model) (among : ℕ → Bool) (words : List (List Word)) (numbered : List NumberedModel) → IsNumbering models among words numbered → AreNoted models among own_latches (map latches_of numbered)
  pub copies : (models : List Model) (among : ℕ → Bool) (words : List (List Word)) (numbered : List NumberedModel) → IsNumbering models among words numbered → AreNoted models among own_copies (map copies_of numbered)
  pub ranks : (numbered : List NumberedModel) (order : List ℕ) → Ordered (all_held numbered) [] order
      → ((m place : ℕ) (instance : NumberedInstance) → slice_get (model_at numbered m).entries place ≡ Some (entries.Instance instance) → is_in order m ≡ true) → IsRanked numbered (place_in order)
