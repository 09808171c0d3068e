-- The models of a text by number, and what they hold.
use Rattle.std.specs.Prelude.{◌≡◌, ℕ, Bool, true, List, Some, All, get_or, map, sum_by, flat_map, option_to_list, slice_get}
use Rattle.blif_order.specs.Orders.{reads_of}
use Rattle.blif_models.specs.Models.{Model, Item, copies_by, copies_within, model_of}
use Rattle.blif_models.specs.ModelFaults.{instances_in, latches_by, latches_in_all, signals_by, signals_within}
use Rattle.blif_models.specs.Graphs.{total_within}

-- the models that some items hold, one for each instance of a model that is there
abbrev pub held_models : List Model → List Item → List Model
held_models models items = flat_map (λ instance. option_to_list (model_of models instance)) (instances_in items)

-- they have these numbers
abbrev pub AreHeld : List Model → List Item → List ℕ → Type 0
AreHeld models items numbers = map (slice_get models) numbers ≡ map Some (held_models models items)

-- Of some models, which hold none but these, the graph tells what they hold.
pub record IsGraph (models : List Model) (among : ℕ → Bool) (holds : List (List ℕ)) : Type 0 where
  pub told : (m : ℕ) (model : Model) → among m ≡ true → slice_get models m ≡ Some model → AreHeld models model.items (reads_of holds m)
  pub closed : (m : ℕ) (model : Model) → among m ≡ true → slice_get models m ≡ Some model → All (λ n. among n ≡ true) (reads_of holds m)

-- what is counted in a model itself is noted by number
abbrev pub AreNoted : List Model → (ℕ → Bool) → (List Item → ℕ) → List ℕ → Type 0
AreNoted models among count own = (m : ℕ) (model : Model) → among m ≡ true → slice_get models m ≡ Some model → get_or own m 0 ≡ count model.items

-- signals, latches and copies in a model itself
abbrev pub own_signals : List Item → ℕ
own_signals items = sum_by (signals_by (λ instance. 0)) items

abbrev pub own_latches : List Item → ℕ
own_latches items = sum_by (latches_by (λ instance. 0)) items

abbrev pub own_copies : List Item → ℕ
own_copies items = sum_by (copies_by (λ instance. 0)) items

-- what is counted through levels of models is what the graph's models have in all
abbrev pub AreCounts : (List Item → ℕ) → (List Model → ℕ → List Item → ℕ) → Type 0
AreCounts own_count count =
    (models : List Model) (among : ℕ → Bool) (holds : List (List ℕ)) (own : List ℕ) → IsGraph models among holds → AreNoted models among own_count own
    → (levels m : ℕ) (model : Model) → among m ≡ true → slice_get models m ≡ Some model → count models levels model.items ≡ total_within holds own levels m

pub record CountsAreTotals : Type 0 where
  pub signals : AreCounts own_signals signals_within
  pub latches : AreCounts own_latches latches_in_all
  pub copies : AreCounts own_copies copies_within
