-- What comes of a main model by numbers is what comes of it by names.
use Rattle.std.specs.Prelude.{◌≡◌, ℕ, suc, ◌<◌, ◌≤◌, ◌||◌, Bool, true, false, List, [], ◌∷◌, Some, None, length, map, slice_get}
use Rattle.std.specs.List.{list_any}
use Rattle.std.specs.Option.{option_map}
use Rattle.edge_bits.specs.declared.limits.TheConstants.{MOST_SIGNALS, MOST_VARIABLES}
use Rattle.job_words.specs.Text.{Word}
use Rattle.blif_models.specs.declared.cycles.Holding.{Holding}
use Rattle.blif_models.specs.declared.expanding.Outcome.{Outcome}
use Rattle.blif_models.specs.declared.expanding.Outcome.TheVariants as outcomes
use Rattle.blif_models.specs.declared.layout.Whole.{Whole}
use Rattle.blif_models.specs.declared.numbered.Entry.{Entry}
use Rattle.blif_models.specs.declared.numbered.Entry.TheVariants as entries
use Rattle.blif_models.specs.declared.numbered.NumberedModel.{NumberedModel}
use Rattle.blif_models.specs.Arrangements.{IsArranged, holdings_from, turning_in}
use Rattle.blif_models.specs.Expanding.{IsWholeOf, OutcomeIs, limit_in}
use Rattle.blif_models.specs.Layouts.{model_at, placed_in}
use Rattle.blif_models.specs.Graphs.{is_reached, turns_back}
use Rattle.blif_models.specs.ModelFaults as faults
use Rattle.blif_models.specs.ModelFaults.{adding_inputs, is_model, least, line_of, too_many_line}
use Rattle.blif_models.specs.Models.{Instance, Model, model_of, whole_items}
use Rattle.blif_models.specs.NumberedGraphs.{all_held}
use Rattle.blif_models.specs.Numberings.{IsNumbering, item_of}

abbrev pub entry_line : Entry → ℕ
entry_line (entries.Cover cover) = cover.line
entry_line (entries.Latch latch) = latch.line
entry_line (entries.Instance instance) = instance.line

-- entries stand on the lines of items
abbrev pub HasLines : Model → NumberedModel → Type 0
HasLines model numbered = map line_of model.items ≡ map entry_line numbered.entries

-- Some models, with the numbers of all, and a main one among them.
pub record IsMain (models : List Model) (among : ℕ → Bool) (words : List (List Word)) (numbered : List NumberedModel) (main : ℕ) (model : Model) : Type 0 where
  pub numbering : IsNumbering models among words numbered
  pub within : (m : ℕ) → among m ≡ true → m < length numbered
  pub as_many : length numbered ≡ length models
  pub is_among : among main ≡ true
  pub is_there : slice_get models main ≡ Some model

-- The whole of a main model by numbers is, name by name, what the main model expands into; and it passes the limits at the same line.
pub record ExpansionsAgree : Type 0 where
  pub whole : (models : List Model) (among : ℕ → Bool) (words : List (List Word)) (numbered : List NumberedModel) (main : ℕ) (model : Model) (whole : Whole) → IsMain models among words numbered main model
      → IsWholeOf numbered main whole → whole_items models model ≡ map (item_of models words) (map (placed_in whole.spots.items) whole.laid.items)
  pub limit : (models : List Model) (among : ℕ → Bool) (words : List (List Word)) (numbered : List NumberedModel) (main : ℕ) (model : Model) (order : List ℕ) → IsMain models among words numbered main model
      → IsArranged numbered order → HasLines model (model_at numbered main) → too_many_line MOST_SIGNALS MOST_VARIABLES models model ≡ limit_in numbered main (map adding_inputs model.inputs)

-- no two of these models begin on one line
abbrev pub AreApart : List Model → (ℕ → Bool) → Type 0
AreApart models among = (m n : ℕ) (one other : Model) → among m ≡ true → among n ≡ true → slice_get models m ≡ Some one → slice_get models n ≡ Some other → one.line ≡ other.line → m ≡ n

-- What models hold through levels of models is the same by numbers and by names, and so by which instances they hold themselves.
pub record ReachedAgrees : Type 0 where
  pub reached : (models : List Model) (among : ℕ → Bool) (words : List (List Word)) (numbered : List NumberedModel) → IsNumbering models among words numbered → AreApart models among
      → (levels m n : ℕ) (one other : Model) → among m ≡ true → among n ≡ true → slice_get models m ≡ Some one → slice_get models n ≡ Some other
      → (is_model other one || list_any (is_model other) (faults.reached models levels one.items)) ≡ is_reached (all_held numbered) levels m n
  pub holds_itself : (models : List Model) (among : ℕ → Bool) (words : List (List Word)) (numbered : List NumberedModel) → IsNumbering models among words numbered → AreApart models among → length numbered ≡ length models
      → (m n : ℕ) (model inner : Model) (instance : Instance) → among m ≡ true → among n ≡ true → slice_get models m ≡ Some model → slice_get models n ≡ Some inner → model_of models instance ≡ Some inner
      → faults.holds_itself models model instance ≡ turns_back (all_held numbered) (record { line = instance.line; by = m; model = n })

-- no instance stands on a lower line than this
abbrev pub HoldingsFrom : ℕ → List Holding → Type 0
HoldingsFrom line [] = Unit {0}
HoldingsFrom line (one ∷ others) = (line ≤ one.line) × HoldingsFrom line others

-- each instance stands on a higher line than those before it
abbrev pub HoldingsRise : List Holding → Type 0
HoldingsRise [] = Unit {0}
HoldingsRise (one ∷ others) = HoldingsFrom (suc one.line) others × HoldingsRise others

-- These models are what the main one reaches; their entries stand on the lines of their items, which rise through all of them, and no
-- others have entries.
pub record AreInLines (models : List Model) (among : ℕ → Bool) (numbered : List NumberedModel) (main : ℕ) : Type 0 where
  pub apart : AreApart models among
  pub lines : (m : ℕ) (model : Model) → among m ≡ true → slice_get models m ≡ Some model → HasLines model (model_at numbered m)
  pub reached : (m : ℕ) → among m ≡ true → is_reached (all_held numbered) (length numbered) main m ≡ true
  pub others : (m : ℕ) → among m ≡ false → (model_at numbered m).entries ≡ []
  pub rising : HoldingsRise (holdings_from 0 numbered)

-- the first line by which a model holds itself is the same by numbers and by names
abbrev pub TurningsAgree : Type 0
TurningsAgree =
    (models : List Model) (among : ℕ → Bool) (words : List (List Word)) (numbered : List NumberedModel) (main : ℕ) (model : Model) → IsMain models among words numbered main model → AreInLines models among numbered main
    → least (faults.holding_lines models model) ≡ option_map (λ one. one.line) (turning_in numbered)

-- what comes of a main model by names, each only where none before it does
abbrev pub NamedOutcomeIs : List Model → List (List Word) → Model → Outcome → Type 0
NamedOutcomeIs models words model (outcomes.Turning line) = least (faults.holding_lines models model) ≡ Some line
NamedOutcomeIs models words model (outcomes.TooMany line) = (least (faults.holding_lines models model) ≡ None) × (too_many_line MOST_SIGNALS MOST_VARIABLES models model ≡ Some line)
NamedOutcomeIs models words model (outcomes.Expanded whole) =
    (least (faults.holding_lines models model) ≡ None) × (too_many_line MOST_SIGNALS MOST_VARIABLES models model ≡ None) × (whole_items models model ≡ map (item_of models words) (map (placed_in whole.spots.items) whole.laid.items))

-- what comes of a main model by numbers is what comes of it by names
abbrev pub OutcomesAgree : Type 0
OutcomesAgree =
    (models : List Model) (among : ℕ → Bool) (words : List (List Word)) (numbered : List NumberedModel) (main : ℕ) (model : Model) (outcome : Outcome) → IsMain models among words numbered main model → AreInLines models among numbered main
    → OutcomeIs numbered main (map adding_inputs model.inputs) outcome → NamedOutcomeIs models words model outcome
